-- The listing with comments, line by line.
use Rattle.std.proofs.Common.{◌≡◌, ℕ, zero, suc, ◌+◌, ◌*◌, ◌-◌, ◌<◌, List, [], ◌∷◌, ◌++◌, length, take, drop, Option, Some, None, refl, sym, ap, ◌∙◌, subst, append_assoc, append-nil, arith}
use Rattle.std.proofs.lemmas.List.{length-append, take-append-le}
use Rattle.std.proofs.Math.Seq.{drop-drop, take-length}
use Rattle.std.proofs.KnownBytes.{Appends-nil}
use Rattle.std.specs.List.{concat}
use Rattle.bpf_insn.specs.Written.{AppendsBeginning, Gathers}
use Rattle.bpf_insn.specs.Instruction.{layout, slots, slots_of, slot_count, insn_at}
use Rattle.bpf_insn.specs.Image.{image, instruction_bytes}
use Rattle.bpf_insn.specs.declared.order.Order.{Order}
use Rattle.bpf_insn.specs.declared.order.Order.TheVariants.{Little, Big}
use Rattle.bpf_insn.specs.declared.instruction.Reg.{Reg}
use Rattle.bpf_insn.specs.declared.instruction.Insn.{Insn}
use Rattle.bpf_insn.specs.declared.instruction.Insn.TheVariants.{LoadImm64}
use Rattle.bpf_insn.specs.code.Layout.{instructions_in}
use Rattle.bpf_insn.proofs.LayoutLemmas.{insns_below, below_insn, below_rest}
use Rattle.bpf_insn.proofs.WriteLemmas.{gathers_more, waits_first, waits_later}
use Rattle.bpf_text.specs.Listing.{pieces, line_text}
use Rattle.bpf_text.specs.declared.annotated.Notes.{Notes}
use Rattle.bpf_text.specs.Annotated.{annotated, annotated_from, annotated_line, comment, commented}
use Rattle.bpf_text.specs.code.Slots.{line_at}
use Rattle.bpf_text.proofs.ListedLemmas.{line_first}

-- ---- one more instruction

pub annotated_append : (notes : Notes) (order : Order) (slot : ℕ) (is js : List Insn) → annotated_from notes order slot (is ++ js) ≡ annotated_from notes order slot is ++ annotated_from notes order (slot + slots is) js
annotated_append notes order slot [] js = ap (λ n. annotated_from notes order n js) (let same : slot ≡ slot + 0 = omega arith in same)
annotated_append notes order slot (x ∷ is) js =
    let count : slot + slot_count x + slots is ≡ slot + slots (x ∷ is) = let l = length-append (slots_of x) (layout is) in omega (arith, l) in
    ap (λ t. annotated_line notes order slot x ++ t) (annotated_append notes order (slot + slot_count x) is js ∙ ap (λ n. annotated_from notes order (slot + slot_count x) is ++ annotated_from notes order n js) count)
    ∙ sym (append_assoc (annotated_line notes order slot x) (annotated_from notes order (slot + slot_count x) is) (annotated_from notes order (slot + slots (x ∷ is)) js))

-- ---- where an instruction stands

none_some : (i : Insn) → (let o : Option Insn = None in o) ≡ Some i → ⊥
none_some i e = cc

same_insn : (x i : Insn) → Some x ≡ Some i → x ≡ i
same_insn x i e = cc

slots_below : (slot : ℕ) (is : List Insn) (i : Insn) → slot < slots is → insn_at is slot ≡ Some i → slots (insns_below slot is) ≡ slot
slots_below zero is i h e = refl
slots_below (suc slot) [] i h e = absurd (omega arith)
slots_below (suc zero) (LoadImm64 dst value ∷ is) i h e = absurd (none_some i e)
slots_below (suc (suc slot)) (LoadImm64 dst value ∷ is) i h e = ap (λ n. suc (suc n)) (slots_below slot is i (omega arith) e)
slots_below (suc slot) (x ∷ is) i h e = ap suc (slots_below slot is i (omega arith) e)

-- ---- its bytes

front : (order : Order) (i : Insn) (rest : List ℕ) → take (8 * slot_count i) (instruction_bytes order i ++ rest) ≡ instruction_bytes order i
front Little (LoadImm64 dst value) rest = refl
front Big (LoadImm64 dst value) rest = refl
front Little i rest = refl
front Big i rest = refl

behind_wide : (order : Order) (dst : Reg) (value : ℕ) (rest : List ℕ) → drop 16 (instruction_bytes order (LoadImm64 dst value) ++ rest) ≡ rest
behind_wide Little dst value rest = refl
behind_wide Big dst value rest = refl

behind_narrow : (order : Order) (i : Insn) (rest : List ℕ) → slot_count i ≡ 1 → drop 8 (instruction_bytes order i ++ rest) ≡ rest
behind_narrow order (LoadImm64 dst value) rest e = absurd (omega arith)
behind_narrow Little i rest e = refl
behind_narrow Big i rest e = refl

first_at : (x : Insn) (is : List Insn) → insn_at (x ∷ is) 0 ≡ Some x
first_at (LoadImm64 dst value) is = refl
first_at x is = refl

moved_by : (k slot n : ℕ) (bytes rest : List ℕ) → n ≡ k + 8 * slot → drop k bytes ≡ rest → drop n bytes ≡ drop (8 * slot) rest
moved_by k slot n bytes rest count e = ap (λ m. drop m bytes) count ∙ sym (drop-drop (8 * slot) k bytes) ∙ ap (drop (8 * slot)) e

bytes_here : (order : Order) (is : List Insn) (slot : ℕ) (i : Insn) → slot < slots is → insn_at is slot ≡ Some i → take (8 * slot_count i) (drop (8 * slot) (image order is)) ≡ instruction_bytes order i
bytes_here order [] slot i h e = absurd (omega arith)
bytes_here order (x ∷ is) zero i h e =
    let same : x ≡ i = same_insn x i (sym (first_at x is) ∙ e) in
    subst (λ y. take (8 * slot_count y) (instruction_bytes order x ++ image order is) ≡ instruction_bytes order y) same (front order x (image order is))
bytes_here order (LoadImm64 dst value ∷ is) (suc zero) i h e = absurd (none_some i e)
bytes_here order (LoadImm64 dst value ∷ is) (suc (suc slot)) i h e =
    ap (take (8 * slot_count i)) (moved_by 16 slot (8 * suc (suc slot)) (image order (LoadImm64 dst value ∷ is)) (image order is) (omega arith) (behind_wide order dst value (image order is))) ∙ bytes_here order is slot i (omega arith) e
bytes_here order (x ∷ is) (suc slot) i h e =
    ap (take (8 * slot_count i)) (moved_by 8 slot (8 * suc slot) (image order (x ∷ is)) (image order is) (omega arith) (behind_narrow order x (image order is) refl)) ∙ bytes_here order is slot i (omega arith) e

-- ---- its line

-- what is written before a slot, and the line of the instruction there
line_here : (notes : Notes) (order : Order) (bytes : List ℕ) (is : List Insn) (slot : ℕ) (i : Insn) → bytes ≡ image order is → slot < slots is → insn_at is slot ≡ Some i
    → annotated_from notes order (0 + slots (insns_below slot is)) (i ∷ []) ≡ line_at notes bytes slot i
line_here notes order bytes is slot i whole inside at =
    let here : take (8 * slot_count i) (drop (8 * slot) bytes) ≡ instruction_bytes order i = ap (λ b. take (8 * slot_count i) (drop (8 * slot) b)) whole ∙ bytes_here order is slot i inside at in
    let count : 0 + slots (insns_below slot is) ≡ slot = let below = slots_below slot is i inside at in omega (arith, below) in
    ap (λ n. annotated_from notes order n (i ∷ [])) count ∙ append-nil (annotated_line notes order slot i)
    ∙ ap (λ b. commented (concat (pieces i)) (comment notes slot b)) (sym here)

lines_below : (notes : Notes) (order : Order) (bytes : List ℕ) (is : List Insn) (slot : ℕ) (i : Insn) → bytes ≡ image order is → slot < slots is → insn_at is slot ≡ Some i
    → annotated notes order (insns_below (slot + 1) is) ≡ annotated notes order (insns_below slot is) ++ line_at notes bytes slot i
lines_below notes order bytes is slot i whole inside at =
    ap (annotated notes order) (below_insn slot is i inside at) ∙ annotated_append notes order 0 (insns_below slot is) (i ∷ [])
    ∙ ap (λ t. annotated notes order (insns_below slot is) ++ t) (line_here notes order bytes is slot i whole inside at)

pub line_put : (notes : Notes) (order : Order) (bytes : List ℕ) (is : List Insn) (slot : ℕ) (i : Insn) (a b c : Option (List ℕ)) (q r : List ℕ) → bytes ≡ image order is → slot < slots is → insn_at is slot ≡ Some i
    → Gathers a b [] q (annotated notes order (insns_below slot is)) → Gathers b c q r (line_at notes bytes slot i) → Gathers a c [] r (annotated notes order (insns_below (slot + 1) is))
line_put notes order bytes is slot i a b c q r whole inside at h k =
    subst (Gathers a c [] r) (sym (lines_below notes order bytes is slot i whole inside at)) (gathers_more a b c [] q r (annotated notes order (insns_below slot is)) (line_at notes bytes slot i) h k)

pub line_begun : (notes : Notes) (order : Order) (bytes : List ℕ) (is : List Insn) (slot : ℕ) (i : Insn) (a b c : Option (List ℕ)) (q : List ℕ) → bytes ≡ image order is → slot < slots is → insn_at is slot ≡ Some i
    → Gathers a b [] q (annotated notes order (insns_below slot is)) → AppendsBeginning b c (q ++ line_at notes bytes slot i) → AppendsBeginning a c (annotated notes order is)
line_begun notes order bytes is slot i a b c q whole inside at h k =
    let more = instructions_in (drop (slot + 1) (layout is)) in
    let next = insns_below slot is ++ i ∷ [] in
    let rest = annotated_from notes order (0 + slots next) more in
    let parts : annotated notes order is ≡ annotated notes order (insns_below slot is) ++ (line_at notes bytes slot i ++ rest) =
    ap (annotated notes order) (below_rest slot is i inside at) ∙ annotated_append notes order 0 next more
    ∙ ap (λ t. t ++ rest) (ap (annotated notes order) (sym (below_insn slot is i inside at)) ∙ lines_below notes order bytes is slot i whole inside at)
    ∙ append_assoc (annotated notes order (insns_below slot is)) (line_at notes bytes slot i) rest in
    subst (AppendsBeginning a c) (sym parts) (waits_later a b c [] q (annotated notes order (insns_below slot is)) (line_at notes bytes slot i ++ rest) h (waits_first b c q (line_at notes bytes slot i) rest k))

-- nothing went out
pub begins_nothing : (a : Option (List ℕ)) (x : List ℕ) → AppendsBeginning a a x
begins_nothing a x = record { begun = []; left = x; is_whole = refl; appends = Appends-nil a }

-- ---- a line without its end

pub without_end : (i : Insn) (start old new : List ℕ) → start ≡ [] → old ≡ start ++ line_text i → new ≡ take (length old - 1) old → new ≡ concat (pieces i)
without_end i start old new none h e =
    let text = concat (pieces i) in
    let whole : old ≡ text ++ 10 ∷ [] = h ∙ ap (λ t. t ++ line_text i) none ∙ sym (append-nil (line_text i)) ∙ line_first i [] in
    let count : length (text ++ 10 ∷ []) - 1 ≡ length text = let l = length-append text (10 ∷ []) in omega (arith, l) in
    e ∙ ap (λ o. take (length o - 1) o) whole ∙ ap (λ k. take k (text ++ 10 ∷ [])) count ∙ take-append-le (length text) text (10 ∷ []) (omega arith) ∙ take-length text
