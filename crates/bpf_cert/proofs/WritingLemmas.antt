-- One write after another.
use Rattle.std.proofs.Common.{◌≡◌, ℕ, zero, suc, ◌+◌, ◌-◌, ◌<◌, List, [], ◌++◌, length, get_or, map, take, drop, replicate, Option, Result, Ok, Err, ◌≤◌, arith, length-append, refl, sym, ap, ◌∙◌, subst, append_assoc, append-nil}
use Rattle.std.specs.Prelude.{flat_map, OnOk, OnErr}
use Rattle.std.specs.Io.KnownBytes.{Appends}
use Rattle.std.proofs.Math.Seq.{drop-append-add}
use Rattle.std.proofs.lemmas.List.{at_drop_more, at_drop_all, drop-replicate, length-map, length-take-le}
use Rattle.std.proofs.lemmas.Grind.{flat_map-append}
use Rattle.bpf_insn.specs.Written.{AppendsBeginning, Gathers}
use Rattle.bpf_insn.proofs.WriteLemmas.{gathers_nothing, gathers_more, waits_first, waits_later, gathered_all, gathered_some}
use Rattle.bpf_state.specs.declared.known.SlotState.{SlotState}
use Rattle.bpf_state.specs.declared.known.SlotState.TheVariants.{Bytes}
use Rattle.bpf_state.specs.State.{AbstractState, IsAbstractState, value_slot}
use Rattle.bpf_cert.specs.Written.{Puts, Writes}
use Rattle.bpf_cert.specs.declared.header.Header.{Header}
use Rattle.bpf_cert.specs.View.{FunctionView, CertificateView, header_of}
use Rattle.bpf_cert.specs.Line.{Line, PlaceText}
use Rattle.bpf_cert.specs.Spelling.{line_with_end, lines_text, lines_from, entry_lines, place_at, contents, header_line, body_lines, certificate_text}

-- nothing was put
pub puts_nothing : (a : Option (List ℕ)) (p : List ℕ) → Gathers a a p p []
puts_nothing = gathers_nothing

-- of the whole, the rest is still to be put behind what waits
pub record Left (old now : Option (List ℕ)) (first waiting whole rest : List ℕ) : Type 0 where
  pub begun : List ℕ
  pub is_whole : whole ≡ begun ++ rest
  pub gathers : Gathers old now first waiting begun

pub left_start : (a : Option (List ℕ)) (p whole : List ℕ) → Left a a p p whole whole
left_start a p whole = record { begun = []; is_whole = refl; gathers = gathers_nothing a p }

pub left_step : {a b c : Option (List ℕ)} {p q r whole rest : List ℕ} (t more : List ℕ) → rest ≡ t ++ more → Left a b p q whole rest → Gathers b c q r t → Left a c p r whole more
left_step {a} {b} {c} {p} {q} {r} t more e l h = record { begun = l.begun ++ t; is_whole = l.is_whole ∙ ap (λ z. l.begun ++ z) e ∙ sym (append_assoc l.begun t more); gathers = gathers_more a b c p q r l.begun t l.gathers h }

pub left_stop : {a b c : Option (List ℕ)} {p q whole rest : List ℕ} (t more : List ℕ) → rest ≡ t ++ more → Left a b p q whole rest → AppendsBeginning b c (q ++ t) → AppendsBeginning a c (p ++ whole)
left_stop {a} {b} {c} {p} {q} t more e l h = subst (λ z. AppendsBeginning a c (p ++ z)) (sym (l.is_whole ∙ ap (λ z. l.begun ++ z) e)) (waits_later a b c p q l.begun (t ++ more) l.gathers (waits_first b c q t more h))

pub left_done : {a b : Option (List ℕ)} {p q whole rest : List ℕ} → rest ≡ [] → Left a b p q whole rest → Gathers a b p q whole
left_done {a} {b} {p} {q} e l = subst (Gathers a b p q) (sym (l.is_whole ∙ ap (λ z. l.begun ++ z) e ∙ append-nil l.begun)) l.gathers

-- the rest is put, or a beginning of it went out
pub left_put : {E : Type 0} {a b : Option (List ℕ)} (c : Option (List ℕ)) {p q : List ℕ} (r : List ℕ) {whole : List ℕ} (rest : List ℕ) (result : Result (Unit {0}) E) → Left a b p q whole rest → Puts b c q r rest result → Puts a c p r whole result
left_put c r rest (Ok u) l h = left_done refl (left_step rest [] (sym (append-nil rest)) l h)
left_put c r rest (Err e) l h = left_stop rest [] (sym (append-nil rest)) l h

-- a text that is one and then another: the first wasn't put whole, or it was and the other comes
pub stops_first : {a c : Option (List ℕ)} (p : List ℕ) {whole : List ℕ} (t more : List ℕ) → whole ≡ t ++ more → AppendsBeginning a c (p ++ t) → AppendsBeginning a c (p ++ whole)
stops_first {a} {c} p {whole} t more e h = left_stop t more e (left_start a p whole) h

pub then_puts : {E : Type 0} {a b : Option (List ℕ)} (c : Option (List ℕ)) {p q : List ℕ} (r : List ℕ) (result : Result (Unit {0}) E) (t more : List ℕ) {whole : List ℕ} → whole ≡ t ++ more → Gathers a b p q t → Puts b c q r more result → Puts a c p r whole result
then_puts {E} {a} {b} c {p} {q} r result t more {whole} e first next = left_put c r more result (left_step t more e (left_start a p whole) first) next

-- behind nothing
pub begins_behind : {a c : Option (List ℕ)} {waiting : List ℕ} (text : List ℕ) → waiting ≡ [] → AppendsBeginning a c (waiting ++ text) → AppendsBeginning a c text
begins_behind {a} {c} text none h = subst (λ q. AppendsBeginning a c (q ++ text)) none h

pub gathers_behind : {a b : Option (List ℕ)} {waiting q : List ℕ} (text : List ℕ) → waiting ≡ [] → Gathers a b waiting q text → Gathers a b [] q text
gathers_behind {a} {b} {waiting} {q} text none h = subst (λ w. Gathers a b w q text) none h

-- all was put behind nothing, and what waits is written
pub left_written : {E : Type 0} {a b : Option (List ℕ)} (c : Option (List ℕ)) {q whole : List ℕ} (result : Result (Unit {0}) E) → Gathers a b [] q whole → OnOk result (Appends b c q) → OnErr result (AppendsBeginning b c q) → Writes a c whole result
left_written {E} {a} {b} c {q} {whole} (Ok u) l all some = gathered_all a b c q whole l all
left_written {E} {a} {b} c {q} {whole} (Err e) l all some = gathered_some a b c q whole l some

-- the lines of an element, and those of the elements behind it
pub next_lines : {A B : Type 0} (lines : B → List Line) (view : A → B) (xs : List A) (i : ℕ) (x : A) → i < length xs → x ≡ get_or xs i x
    → lines_text (flat_map lines (map view (drop i xs))) ≡ lines_text (lines (view x)) ++ lines_text (flat_map lines (map view (drop (i + 1) xs)))
next_lines lines view xs i x inside e =
    at_drop_more (λ ys. lines_text (flat_map lines (map view ys))) xs i x inside
    ∙ ap (λ y. lines_text (lines (view y) ++ flat_map lines (map view (drop (i + 1) xs)))) (sym e)
    ∙ flat_map-append line_with_end (lines (view x)) (flat_map lines (map view (drop (i + 1) xs)))

-- the line of a place, and those of the places behind it
pub next_entry : (cs : List SlotState) (j : ℕ) (place : PlaceText) (value d : SlotState) → j < length cs → place ≡ place_at j → value ≡ get_or cs j d
    → lines_text (lines_from j (drop j cs)) ≡ lines_text (entry_lines place value) ++ lines_text (lines_from (j + 1) (drop (j + 1) cs))
next_entry cs j place value d inside at holds =
    at_drop_more (λ ys. lines_text (lines_from j ys)) cs j d inside
    ∙ ap (λ p. lines_text (entry_lines p (get_or cs j d) ++ lines_from (j + 1) (drop (j + 1) cs))) (sym at)
    ∙ ap (λ v. lines_text (entry_lines place v ++ lines_from (j + 1) (drop (j + 1) cs))) (sym holds)
    ∙ flat_map-append line_with_end (entry_lines place value) (lines_from (j + 1) (drop (j + 1) cs))

pub no_entry : (cs : List SlotState) (j : ℕ) → length cs ≤ j → lines_from j (drop j cs) ≡ []
no_entry cs j all = at_drop_all (λ ys. lines_from j ys) cs j all

pub front_length : (s : AbstractState) → IsAbstractState s → length (map value_slot (take 10 s.registers)) ≡ 10
front_length s st = let long : length s.registers ≡ 11 = st.register_count in omega (arith, length-map (take 10 s.registers) value_slot, length-take-le 10 s.registers (omega arith))

pub length-contents : (s : AbstractState) → IsAbstractState s → length (contents s) ≡ 74
length-contents s h = length-append (map value_slot (take 10 s.registers)) s.slots ∙ omega (arith, front_length s h, h.slot_count)

-- places of which nothing is known have no lines
none_said : (n j : ℕ) → lines_from j (replicate n (Bytes 0)) ≡ []
none_said zero j = refl
none_said (suc n) j = none_said n (j + 1)

-- where nothing is known of a slot, no line is behind those of the registers
pub no_slot_entry : (s : AbstractState) (j : ℕ) → IsAbstractState s → s.slots ≡ replicate 64 (Bytes 0) → 10 ≤ j → lines_from j (drop j (contents s)) ≡ []
no_slot_entry s j h none behind =
    let front : List SlotState = map value_slot (take 10 s.registers) in
    let at : j ≡ length front + (j - 10) = omega (arith, front_length s h) in
    let rest : drop j (contents s) ≡ replicate (64 - (j - 10)) (Bytes 0) =
    ap (λ n. drop n (contents s)) at ∙ drop-append-add front s.slots (j - 10) ∙ ap (drop (j - 10)) none ∙ drop-replicate (j - 10) 64 (Bytes 0) in
    ap (lines_from j) rest ∙ none_said (64 - (j - 10)) j

-- the lines of a certificate: its header, and those behind it
pub header_first : (h : Header) (c : CertificateView) (functions : List FunctionView) (t : List ℕ) → t ≡ line_with_end (header_line h) → h ≡ header_of c → functions ≡ c.functions
    → certificate_text c ≡ t ++ lines_text (body_lines functions)
header_first h c functions t e l f =
    ap (λ z. z ++ lines_text (body_lines c.functions)) (ap (λ x. line_with_end (header_line x)) (sym l) ∙ sym e)
    ∙ ap (λ fs. t ++ lines_text (body_lines fs)) (sym f)
