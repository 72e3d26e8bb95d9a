-- Where a slot lies, by how many templates begin in front of it; and how many slots a program has.
use Rattle.std.proofs.Common.{◌≡◌, ℕ, zero, suc, ◌+◌, ◌-◌, ◌<◌, ◌≤◌, List, [], ◌∷◌, length, drop, get_or, true, false, refl, sym, ap, ◌∙◌, subst, ⊎_elim, arith, length-append}
use Rattle.std.specs.Prelude.{nat_lt, slice_index, map, Some}
use Rattle.std.proofs.lemmas.Bool.{cond-true, cond-false, lt-ltb, le-ltb, cases_lt, cases_Bool}
use Rattle.std.proofs.lemmas.List.{length-map}
use Rattle.bpf_insn.specs.Instruction.{Instructions, layout, slots}
use Rattle.bpf_classic.specs.Template.{size, total, ahead_in, trap_code, code, entry, whole}
use Rattle.bpf_classic.specs.Meaning.{Conversion}
use Rattle.bpf_classic.specs.declared.layout.Layout.{Layout}
use Rattle.bpf_classic.specs.declared.layout.Annotated.{Annotated}
use Rattle.bpf_classic.proofs.Steps.{narrow_layout}
use Rattle.bpf_classic.proofs.Narrow.{narrow_whole}
use Rattle.bpf_classic.proofs.Places.{code_length}
use Rattle.bpf_classic.proofs.Tables.{entry_few, total_few}
use Rattle.bpf_conversion.specs.Parts.{part_behind, part_at}
use Rattle.bpf_conversion.specs.Claim.{IsConversion}
use Rattle.bpf_conversion.specs.Outline.{IsNarrow, AreBegun}
use Rattle.bpf_conversion.specs.declared.parts.Stretch.TheVariants.{Entry, Template, Trap}
use Rattle.bpf_conversion.proofs.LongestLemmas.{slots_are}

-- ---- templates behind one another

pub less_behind : (l : Layout) (k : ℕ) (rest : List Annotated) → total l (drop k rest) ≤ total l rest
less_behind l zero rest = omega arith
less_behind l (suc k) [] = omega arith
less_behind l (suc k) (a ∷ rest) = let h = less_behind l k rest in omega arith

pub trap_past : (l : Layout) (marked : List Annotated) (slot : ℕ) → total l marked ≤ slot → part_behind l marked slot ≡ Trap (slot - total l marked)
trap_past l [] slot past = let e : slot ≡ slot - 0 = omega arith in ap Trap e
trap_past l (a ∷ rest) slot past =
    let e : slot - size l a - total l rest ≡ slot - (size l a + total l rest) = omega arith in
    cond-false (nat_lt slot (size l a)) (Template a slot) (part_behind l rest (slot - size l a)) (le-ltb slot (size l a) (omega arith))
    ∙ trap_past l rest (slot - size l a) (omega arith)
    ∙ ap Trap e

pub in_template : (l : Layout) (marked : List Annotated) (k slot : ℕ) (d : Annotated) → k < length marked → ahead_in l marked k ≤ slot → slot < ahead_in l marked (suc k)
    → part_behind l marked slot ≡ Template (get_or marked k d) (slot - ahead_in l marked k)
in_template l [] k slot d lt low high = absurd (omega arith)
in_template l (a ∷ rest) zero slot d lt low high =
    let here : slot < size l a = omega (arith, high) in
    let e : slot ≡ slot - (size l a + total l rest - (size l a + total l rest)) = omega arith in
    cond-true (nat_lt slot (size l a)) (Template a slot) (part_behind l rest (slot - size l a)) (lt-ltb slot (size l a) here) ∙ ap (Template a) e
in_template l (a ∷ rest) (suc k) slot d lt low high =
    let one = less_behind l k rest in
    let two = less_behind l (suc k) rest in
    let past : size l a ≤ slot = omega (arith, low, one) in
    let e : slot - size l a - ahead_in l rest k ≡ slot - (size l a + total l rest - total l (drop k rest)) = omega (arith, one) in
    cond-false (nat_lt slot (size l a)) (Template a slot) (part_behind l rest (slot - size l a)) (le-ltb slot (size l a) past)
    ∙ in_template l rest k (slot - size l a) d (omega (arith, lt)) (omega (arith, low, one)) (omega (arith, high, two))
    ∙ ap (Template (get_or rest k d)) e

-- ---- the whole program

abbrev trap_slots : Layout → ℕ
trap_slots l = length (code l [])

pub with_trap : (l : Layout) → l.trap ≡ true → trap_slots l ≡ 2
with_trap l e = ap length (cond-true l.trap trap_code [] e)

pub without_trap : (l : Layout) → l.trap ≡ false → trap_slots l ≡ 0
without_trap l e = ap length (cond-false l.trap trap_code [] e)

pub trap_few : (l : Layout) → trap_slots l ≤ 2
trap_few l =
    ⊎_elim
    (λ (e : l.trap ≡ true). let h = with_trap l e in omega (arith, h))
    (λ (e : l.trap ≡ false). let h = without_trap l e in omega (arith, h))
    (cases_Bool l.trap)

pub whole_length : (l : Layout) (marked : List Annotated) → length (whole l marked) ≡ length (entry l marked) + (total l marked + trap_slots l)
whole_length l marked = length-append (entry l marked) (code l marked) ∙ ap (λ n. length (entry l marked) + n) (code_length l marked)

pub list_is : (c : Conversion) → IsConversion c → c.program.list ≡ whole c.layout c.marked
list_is c h = ap (λ (p : Instructions). p.list) h.converted.program

pub is_short : (c : Conversion) → IsConversion c → length c.program.list ≤ 24600
is_short c h =
    let all = ap length (list_is c h) ∙ whole_length c.layout c.marked in
    let one = entry_few c.layout c.marked in
    let two = total_few c.layout c.marked in
    let three = trap_few c.layout in
    let marked = sym (length-map c.marked (λ (a : Annotated). a.insn)) ∙ ap length h.converted.same in
    let few = h.converted.valid.few in
    omega (arith, all, one, two, three, marked, few)

pub narrow : (c : Conversion) → IsConversion c → IsNarrow c.program.list
narrow c h = record {
  flat = subst (λ list. layout list ≡ map Some list) (sym (list_is c h)) (narrow_layout (whole c.layout c.marked) (narrow_whole c.layout c.marked));
  few = let short = is_short c h in omega (arith, short);
}

pub slots_whole : (c : Conversion) → IsConversion c → slots c.program.list ≡ length (entry c.layout c.marked) + (total c.layout c.marked + trap_slots c.layout)
slots_whole c h = slots_are c.program.list (narrow c h) ∙ ap length (list_is c h) ∙ whole_length c.layout c.marked

-- ---- where a slot lies

pub part_trap : (c : Conversion) → IsConversion c → (slot : ℕ) → c.layout.trap ≡ true → slots c.program.list ≤ slot + 2 → Trap (slot + 2 - slots c.program.list) ≡ part_at c.layout c.marked slot
part_trap c h slot trap past =
    let l = c.layout in
    let e : ℕ = length (entry l c.marked) in
    let all = slots_whole c h in
    let two = with_trap l trap in
    let offset : slot - e - total l c.marked ≡ slot + 2 - slots c.program.list = omega (arith, all, two) in
    sym
    (cond-false (nat_lt slot e) Entry (part_behind l c.marked (slot - e)) (le-ltb slot e (omega (arith, all, two)))
    ∙ trap_past l c.marked (slot - e) (omega (arith, all, two))
    ∙ ap Trap offset)

-- in front of the exit the templates end
pub in_front : (c : Conversion) → IsConversion c → (slot : ℕ) → slot < slots c.program.list → (c.layout.trap ≡ true → slot + 2 < slots c.program.list) → slot < length (entry c.layout c.marked) + total c.layout c.marked
in_front c h slot lt front =
    let all = slots_whole c h in
    ⊎_elim
    (λ (e : c.layout.trap ≡ true). let two = with_trap c.layout e in let less = front e in omega (arith, all, two, less))
    (λ (e : c.layout.trap ≡ false). let none = without_trap c.layout e in omega (arith, all, none))
    (cases_Bool c.layout.trap)

pub part_entry : (c : Conversion) → IsConversion c → (slot : ℕ) → slot < length (entry c.layout c.marked) + total c.layout c.marked → (0 < length c.starts → slot < slice_index c.starts 0) → Entry ≡ part_at c.layout c.marked slot
part_entry c h slot lt first =
    let l = c.layout in
    let e : ℕ = length (entry l c.marked) in
    let none = total_none l c.marked in
    let inside : slot < e =
    ⊎_elim
    (λ (some : 0 < length c.marked).
    let at = h.starts.1 0 some in
    let here = first (omega (arith, h.starts.0)) in
    omega (arith, at, here))
    (λ (empty : length c.marked ≤ 0). let zero_is = none empty in omega (arith, zero_is))
    (cases_lt 0 (length c.marked)) in
    sym (cond-true (nat_lt slot e) Entry (part_behind l c.marked (slot - e)) (lt-ltb slot e inside))
  where
    total_none : (l : Layout) (marked : List Annotated) → length marked ≤ 0 → total l marked ≡ 0
    total_none l [] le = refl
    total_none l (a ∷ rest) le = absurd (omega arith)

pub part_template : (c : Conversion) → IsConversion c → (slot k : ℕ) (d : Annotated) → slot < length (entry c.layout c.marked) + total c.layout c.marked → suc k ≤ length c.starts → slice_index c.starts k ≤ slot
    → (suc k < length c.starts → slot < slice_index c.starts (suc k)) → Template (get_or c.marked k d) (slot - slice_index c.starts k) ≡ part_at c.layout c.marked slot
part_template c h slot k d lt few low next =
    let l = c.layout in
    let e : ℕ = length (entry l c.marked) in
    let long = h.starts.0 in
    let here = h.starts.1 k (omega (arith, long)) in
    let behind : slot - e < ahead_in l c.marked (suc k) =
    ⊎_elim
    (λ (more : suc k < length c.starts).
    let at = h.starts.1 (suc k) (omega (arith, long)) in
    let less = next more in
    omega (arith, at, less, here, low))
    (λ (last : length c.starts ≤ suc k).
    let none = total_past l (suc k) c.marked (omega (arith, long, last)) in
    omega (arith, none, here, low, lt))
    (cases_lt (suc k) (length c.starts)) in
    let offset : slot - e - ahead_in l c.marked k ≡ slot - slice_index c.starts k = omega (arith, here) in
    sym
    (cond-false (nat_lt slot e) Entry (part_behind l c.marked (slot - e)) (le-ltb slot e (omega (arith, here, low)))
    ∙ in_template l c.marked k (slot - e) d (omega (arith, long)) (omega (arith, here, low)) behind
    ∙ ap (Template (get_or c.marked k d)) offset)
  where
    total_past : (l : Layout) (k : ℕ) (marked : List Annotated) → length marked ≤ k → total l (drop k marked) ≡ 0
    total_past l zero [] le = refl
    total_past l zero (a ∷ rest) le = absurd (omega arith)
    total_past l (suc k) [] le = refl
    total_past l (suc k) (a ∷ rest) le = total_past l k rest (omega arith)

-- ---- how many templates begin

pub none_begun : (starts : List ℕ) (slot : ℕ) → AreBegun starts 0 slot
none_begun starts slot = record { few = omega arith; last = λ k e. absurd (omega (arith, e)) }

pub one_begun : (starts : List ℕ) (n slot : ℕ) → n < length starts → slice_index starts n ≤ slot → AreBegun starts (n + 1) slot
one_begun starts n slot lt le = record {
  few = omega arith;
  last = λ k e. let same : n ≡ k = omega (arith, e) in subst (λ j. slice_index starts j ≤ slot) same le;
}

pub begun_later : (starts : List ℕ) (n slot : ℕ) → AreBegun starts n slot → AreBegun starts n (slot + 1)
begun_later starts n slot h = record { few = h.few; last = λ k e. let le = h.last k e in omega (arith, le) }
