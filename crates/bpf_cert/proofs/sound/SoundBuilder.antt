-- The parts of a certificate in the making keep the order and the limits, one line later.
use Rattle.std.proofs.Common.{◌≡◌, ◌^◌, ◌<◌, true, false, not, ltb, List, [], ◌∷◌, map, Some, Ok, refl, sym, ap, subst, ◌∙◌, arith, length-append}
use Rattle.std.specs.Prelude.{count_by}
use Rattle.std.specs.List.{list_all}
use Rattle.bpf_cert.specs.Line.{Line}
use Rattle.bpf_state.specs.declared.known.Place.{Place}
use Rattle.bpf_state.specs.declared.known.SlotState.{SlotState}
use Rattle.bpf_cert.specs.Faults.{is_ended, is_function, ends_bare}
use Rattle.bpf_cert.specs.View.{label_view, function_view, certificate_of}
use Rattle.bpf_cert.specs.Spelling.{header_line, function_line, label_line, spelled_place, content_of}
use Rattle.bpf_cert.specs.Limits.{is_limited_num, is_limited_term, is_limited_header, IsCertificate}
use Rattle.bpf_cert.specs.code.Standing.{Stands, ruled, stage_of, is_start, may_have_label}
use Rattle.bpf_cert.specs.code.Sound.{IsLabelState, AreWhole, HasFunction, IsSoundAt, IsSound, closed, function_at, functions_at, with_label}
use Rattle.bpf_cert.specs.code.Building.{IsBuilt, Closes, ClosesLabel, Puts}
use Rattle.bpf_cert.specs.declared.building.Builder.{Builder}
use Rattle.bpf_cert.specs.declared.standing.Stage.{Stage}
use Rattle.bpf_cert.specs.declared.standing.Stage.TheVariants as stage
use Rattle.bpf_cert.proofs.LastLine.{by_last}
use Rattle.bpf_cert.proofs.Bools.{both_true}
use Rattle.bpf_cert.proofs.StandingLemmas.{stand_header, stand_function, stand_label, stand_entry, stand_end}
use Rattle.bpf_cert.proofs.AfterLemmas.{IsFine, ruled_fine}
use Rattle.bpf_cert.proofs.BuiltLemmas.{start_empty, IsInFunction, in_function, in_label}
use Rattle.bpf_cert.proofs.sound.SoundSteps.{sound_header, sound_function, whole_more, sound_end, sound_label, sound_entry, last_state}

-- where a function or `end` may follow
abbrev IsWholeStage : Stage → Type 0
IsWholeStage stage.Header = Unit {0}
IsWholeStage stage.Label = Unit {0}
IsWholeStage _ = ⊥

whole_stage : (ls : List Line) → not (is_start (stage_of ls)) ≡ true → is_ended ls ≡ false → not (ends_bare ls) ≡ true → IsWholeStage (stage_of ls)
whole_stage ls = by_last (λ xs. not (is_start (stage_of xs)) ≡ true → is_ended xs ≡ false → not (ends_bare xs) ≡ true → IsWholeStage (stage_of xs)) (λ e f g. cc) (λ ls a b e f g. tt) (λ ls a b c e f g. cc) (λ ls a b c e f g. tt) (λ ls a b e f g. tt) (λ ls e f g. cc) ls

closes_whole : (s : Stage) (old mid new : Builder) → IsWholeStage s → old.standing.stage ≡ s → IsSoundAt s old → Closes old mid → new.header ≡ mid.header → closed new ≡ closed mid → AreWhole old.standing new.header (closed new)
closes_whole stage.Start old mid new g e sound c a same = absurd g
closes_whole stage.Header old mid new g e sound c a same = rw (a, same, c.list ∙ ap (λ s. functions_at s old) e, c.keeps.header) sound
closes_whole stage.Function old mid new g e sound c a same = absurd g
closes_whole stage.Label old mid new g e sound c a same =
    let lengths = length-append (map label_view old.function.labels.items) (label_view old.label ∷ []) in
    rw (a, same, c.list ∙ ap (λ s. functions_at s old) e, c.keeps.header)
    (whole_more old.standing old.header (closed old) (with_label (function_view old.function) (label_view old.label)) sound (omega arith))
closes_whole stage.Ended old mid new g e sound c a same = absurd g

pub header_sound : (lines : List Line) (old new : Builder) (l : Line) → IsBuilt lines old → ruled lines (Some l) ≡ Ok l → l ≡ header_line new.header → Stands (l ∷ lines) new.standing
    → is_limited_header new.header ≡ true → closed new ≡ closed old → IsSound new
header_sound lines old new l built fine e stands limited same =
    let is : IsFine lines (header_line new.header) = subst (IsFine lines) e (ruled_fine lines l l fine) in
    let empty : lines ≡ [] = start_empty lines (sym (stand_header lines _ _) ∙ is.stands) in
    let at_start : old.standing.stage ≡ stage.Start = built.stands.stage ∙ ap stage_of empty in
    let none : closed old ≡ [] = subst (λ s. IsSoundAt s old) at_start built.sound in
    let now : new.standing.stage ≡ stage.Header = stands.stage ∙ ap (λ x. stage_of (x ∷ lines)) e in
    let stands_too : Stands (header_line new.header ∷ lines) new.standing = subst (λ x. Stands (x ∷ lines) new.standing) e stands in
    subst (λ s. IsSoundAt s new) (sym now) (subst (AreWhole new.standing new.header) (sym (same ∙ none)) (sound_header lines new.standing new.header empty stands_too limited))

pub function_sound : (lines : List Line) (old mid new : Builder) (l : Line) → IsBuilt lines old → is_ended lines ≡ false → ruled lines (Some l) ≡ Ok l → l ≡ function_line (function_view new.function) → Stands (l ∷ lines) new.standing
    → Closes old mid → new.header ≡ mid.header → closed new ≡ closed mid → map label_view new.function.labels.items ≡ [] → new.function.first < 2 ^ 64 → new.function.depth < 2 ^ 64 → is_limited_num new.function.ret ≡ true → IsSound new
function_sound lines old mid new l built more fine e stands closes a same bare small_first small_depth ret =
    let f = function_view new.function in
    let is : IsFine lines (function_line f) = subst (IsFine lines) e (ruled_fine lines l l fine) in
    let may : not (is_start (stage_of lines)) ≡ true = sym (stand_function lines _ _ _) ∙ is.stands in
    let room = both_true (ltb (count_by is_function lines) 256) (not (ends_bare lines)) is.room in
    let whole = closes_whole (stage_of lines) old mid new (whole_stage lines may more room.1) built.stands.stage (subst (λ s. IsSoundAt s old) built.stands.stage built.sound) closes a same in
    let now : new.standing.stage ≡ stage.Function = stands.stage ∙ ap (λ x. stage_of (x ∷ lines)) e in
    let stands_too : Stands (function_line f ∷ lines) new.standing = subst (λ x. Stands (x ∷ lines) new.standing) e stands in
    subst (λ s. IsSoundAt s new) (sym now) (sound_function lines old.standing new.standing new.header (closed new) f bare small_first small_depth ret whole built.stands stands_too is)

pub end_sound : (lines : List Line) (old mid new : Builder) (l : Line) → IsBuilt lines old → is_ended lines ≡ false → ruled lines (Some l) ≡ Ok l → l ≡ Line.end → Stands (l ∷ lines) new.standing
    → Closes old mid → new.header ≡ mid.header → closed new ≡ closed mid → IsSound new
end_sound lines old mid new l built more fine e stands closes a same =
    let is : IsFine lines Line.end = subst (IsFine lines) e (ruled_fine lines l l fine) in
    let may : not (is_start (stage_of lines)) ≡ true = sym (stand_end lines) ∙ is.stands in
    let room = both_true (ltb 0 (count_by is_function lines)) (not (ends_bare lines)) is.room in
    let whole = closes_whole (stage_of lines) old mid new (whole_stage lines may more room.1) built.stands.stage (subst (λ s. IsSoundAt s old) built.stands.stage built.sound) closes a same in
    let now : new.standing.stage ≡ stage.Ended = stands.stage ∙ ap (λ x. stage_of (x ∷ lines)) e in
    subst (λ s. IsSoundAt s new) (sym now) (sound_end lines old.standing new.header (closed new) whole built.stands is)

closes_has : (s : Stage) (old mid new : Builder) → IsInFunction s → old.standing.stage ≡ s → IsSoundAt s old → ClosesLabel old mid → new.header ≡ mid.header → closed new ≡ closed mid → function_view new.function ≡ function_view mid.function
    → HasFunction old.standing new.header (closed new) (function_view new.function)
closes_has stage.Start old mid new g e sound c a same last = absurd g
closes_has stage.Header old mid new g e sound c a same last = absurd g
closes_has stage.Function old mid new g e sound c a same last = rw (a, same, last, c.list, c.last ∙ ap (λ s. function_at s old) e, c.keeps.header) sound
closes_has stage.Label old mid new g e sound c a same last = rw (a, same, last, c.list, c.last ∙ ap (λ s. function_at s old) e, c.keeps.header) sound
closes_has stage.Ended old mid new g e sound c a same last = absurd g

pub label_sound : (lines : List Line) (old mid new : Builder) (l : Line) → IsBuilt lines old → is_ended lines ≡ false → ruled lines (Some l) ≡ Ok l → l ≡ label_line (label_view new.label) → Stands (l ∷ lines) new.standing
    → ClosesLabel old mid → new.header ≡ mid.header → closed new ≡ closed mid → function_view new.function ≡ function_view mid.function → new.label.slot < 2 ^ 64 → new.label.budget.base < 2 ^ 64
    → list_all is_limited_term new.label.budget.terms.items ≡ true → IsLabelState new.label.state → IsSound new
label_sound lines old mid new l built more fine e stands closes a same last small_slot small_base terms state =
    let m = label_view new.label in
    let is : IsFine lines (label_line m) = subst (IsFine lines) e (ruled_fine lines l l fine) in
    let may : may_have_label (stage_of lines) ≡ true = sym (stand_label lines _ _ _) ∙ is.stands in
    let has = closes_has (stage_of lines) old mid new (in_function lines may more) built.stands.stage (subst (λ s. IsSoundAt s old) built.stands.stage built.sound) closes a same last in
    let now : new.standing.stage ≡ stage.Label = stands.stage ∙ ap (λ x. stage_of (x ∷ lines)) e in
    let stands_too : Stands (label_line m ∷ lines) new.standing = subst (λ x. Stands (x ∷ lines) new.standing) e stands in
    subst (λ s. IsSoundAt s new) (sym now) (sound_label lines old.standing new.standing new.header (closed new) (function_view new.function) m small_slot small_base terms state has built.stands stands_too is)

pub entry_sound : (lines : List Line) (old mid new : Builder) (l : Line) (p : Place) (v : SlotState) → IsBuilt lines old → ruled lines (Some l) ≡ Ok l → l ≡ Line.entry (spelled_place p) (content_of v) → Stands (l ∷ lines) new.standing
    → Puts p v old mid → new.header ≡ mid.header → closed new ≡ closed mid → function_view new.function ≡ function_view mid.function → new.label ≡ mid.label → IsSound new
entry_sound lines old mid new l p v built fine e stands puts a same last labels =
    let is : IsFine lines (Line.entry (spelled_place p) (content_of v)) = subst (IsFine lines) e (ruled_fine lines l l fine) in
    let was : old.standing.stage ≡ stage.Label = built.stands.stage ∙ in_label lines (sym (stand_entry lines _ _) ∙ is.stands) in
    let has : HasFunction old.standing old.header (closed old) (with_label (function_view old.function) (label_view old.label)) = subst (λ s. IsSoundAt s old) was built.sound in
    let state : IsLabelState mid.label.state = puts.sound (last_state (map label_view old.function.labels.items) (label_view old.label) has.labels) in
    let now : new.standing.stage ≡ stage.Label = stands.stage ∙ ap (λ x. stage_of (x ∷ lines)) e in
    let stands_too : Stands (Line.entry (spelled_place p) (content_of v) ∷ lines) new.standing = subst (λ x. Stands (x ∷ lines) new.standing) e stands in
    let whole : function_at stage.Label new ≡ with_label (function_view old.function) (label_view mid.label) = ap (λ f. with_label f (label_view new.label)) (last ∙ puts.last) ∙ ap (λ x. with_label (function_view old.function) (label_view x)) labels in
    subst (λ s. IsSoundAt s new) (sym now) (subst (HasFunction new.standing new.header (closed new)) (sym whole) (rw (a, same, puts.keeps.header, puts.list)
    (sound_entry lines old.standing new.standing old.header (closed old) (function_view old.function) (label_view old.label) (label_view mid.label) (spelled_place p) (content_of v) puts.slot (ap (λ x. x.base) puts.budget) (ap (λ x. x.terms.items) puts.budget) state has built.stands stands_too)))

ended_stage : (ls : List Line) → is_ended ls ≡ true → stage_of ls ≡ stage.Ended
ended_stage ls = by_last (λ xs. is_ended xs ≡ true → stage_of xs ≡ stage.Ended) (λ e. cc) (λ ls a b e. cc) (λ ls a b c e. cc) (λ ls a b c e. cc) (λ ls a b e. cc) (λ ls e. refl) ls

-- behind `end` the parts are a certificate's
pub ended_sound : (lines : List Line) (b : Builder) → IsBuilt lines b → is_ended lines ≡ true → IsCertificate (certificate_of b.header (map function_view b.functions.items))
ended_sound lines b built e = subst (λ s. IsSoundAt s b) (built.stands.stage ∙ ended_stage lines e) built.sound
