-- The longest ways, from the last slot to the first, and the longest turn.
use Rattle.std.proofs.Common.{◌≡◌, ℕ, zero, suc, ◌+◌, ◌-◌, ◌<◌, ◌≤◌, List, [], ◌∷◌, length, drop, get_or, Option, Some, None, refl, sym, ap, ap₂, ◌∙◌, subst, arith}
use Rattle.std.specs.Prelude.{ℤ, pos, negsuc, ◌<ℤ◌, ◌≤ℤ◌, unsigned_abs, max, map, slice_get, slice_set}
use Rattle.std.proofs.lemmas.Int.{ints, clamps}
use Rattle.std.proofs.lemmas.List.{length-set, length-map, drop_all, drop_more, drop-set}
use Rattle.std.proofs.lemmas.Option.{slice_get-get_or}
use Rattle.bpf_insn.specs.Instruction.{insn_at, slots}
use Rattle.bpf_insn.specs.Limits.{max_slots}
use Rattle.bpf_insn.specs.declared.instruction.Reg.{Reg}
use Rattle.bpf_insn.specs.declared.instruction.Operand.{Operand}
use Rattle.bpf_insn.specs.declared.instruction.Width.{Width}
use Rattle.bpf_insn.specs.declared.instruction.Cond.{Cond}
use Rattle.bpf_insn.specs.declared.instruction.Insn.{Insn}
use Rattle.bpf_insn.specs.declared.instruction.Insn.TheVariants.{Alu, Neg, MovSx, End, LoadImm64, Load, LoadSx, Store, StoreImm, Atomic, Ja, JaLong, JumpIf, CallLocal, Exit}
use Rattle.bpf_classic.specs.Longest.{longest_of, longest_ways, longest_back, longest_turn}
use Rattle.bpf_conversion.specs.Outline.{IsNarrow, longest_if, way_ahead, way_back, back_if}

-- ---- jumps forward and back

pub nothing_ahead : (behind : List ℕ) (off : ℤ) → off <ℤ pos 0 → 0 ≡ way_ahead behind off
nothing_ahead behind (pos d) h = absurd (omega (arith, ints))
nothing_ahead behind (negsuc d) h = refl

pub ahead_is : (behind : List ℕ) (off : ℤ) → pos 0 ≤ℤ off → get_or behind (unsigned_abs off) 0 ≡ way_ahead behind off
ahead_is behind (pos d) h = refl
ahead_is behind (negsuc d) h = absurd (omega (arith, ints))

pub nothing_back : (ways : List ℕ) (slot : ℕ) (off : ℤ) → pos 0 ≤ℤ off → 0 ≡ way_back ways slot off
nothing_back ways slot (pos d) h = refl
nothing_back ways slot (negsuc d) h = absurd (omega (arith, ints))

pub back_is : (ways : List ℕ) (slot : ℕ) (off : ℤ) → off <ℤ pos 0 → get_or ways (slot - (unsigned_abs off - 1)) 0 ≡ way_back ways slot off
back_is ways slot (pos d) h = absurd (omega (arith, ints))
back_is ways slot (negsuc d) h = let e : suc d - 1 ≡ d = omega arith in ap (λ n. get_or ways (slot - n) 0) e

pub ahead_few : (behind : List ℕ) (off : ℤ) (n : ℕ) → ((at : ℕ) → get_or behind at 0 ≤ n) → way_ahead behind off ≤ n
ahead_few behind (pos d) n few = few d
ahead_few behind (negsuc d) n few = omega arith

pub ja_is : (behind : List ℕ) (off : ℤ) → way_ahead behind off + 1 ≡ longest_of (Ja off) behind
ja_is behind (pos d) = omega arith
ja_is behind (negsuc d) = refl

pub test_is : (test : Cond) (width : Width) (dst : Reg) (src : Operand) (behind : List ℕ) (off : ℤ) → max (get_or behind 0 0) (way_ahead behind off) + 1 ≡ longest_of (JumpIf test width dst src off) behind
test_is test width dst src behind (pos d) = omega (arith, clamps)
test_is test width dst src behind (negsuc d) = omega (arith, clamps)

pub turn_back_is : (ways : List ℕ) (slot : ℕ) (off : ℤ) → way_back ways slot off ≡ longest_back ways slot (Ja off)
turn_back_is ways slot (pos d) = refl
turn_back_is ways slot (negsuc d) = refl

-- ---- no way is longer than the program

longest_few : (i : Insn) (behind : List ℕ) (n : ℕ) → ((at : ℕ) → get_or behind at 0 ≤ n) → longest_of i behind ≤ suc n
longest_few (Alu op width dst src) behind n few = let h = few 0 in omega (arith, h)
longest_few (Neg width dst) behind n few = let h = few 0 in omega (arith, h)
longest_few (MovSx width bits dst src) behind n few = let h = few 0 in omega (arith, h)
longest_few (End kind bits dst) behind n few = let h = few 0 in omega (arith, h)
longest_few (LoadImm64 dst value) behind n few = let h = few 0 in omega (arith, h)
longest_few (Load size dst src off) behind n few = let h = few 0 in omega (arith, h)
longest_few (LoadSx size dst src off) behind n few = let h = few 0 in omega (arith, h)
longest_few (Store size dst off src) behind n few = let h = few 0 in omega (arith, h)
longest_few (StoreImm size dst off imm) behind n few = let h = few 0 in omega (arith, h)
longest_few (Atomic wide op dst off src) behind n few = let h = few 0 in omega (arith, h)
longest_few (Ja (pos d)) behind n few = let h = few d in omega (arith, h)
longest_few (Ja (negsuc d)) behind n few = omega arith
longest_few (JaLong off) behind n few = let h = few 0 in omega (arith, h)
longest_few (JumpIf test width dst src (pos d)) behind n few = let h = few 0 in let k = few d in omega (arith, clamps, h, k)
longest_few (JumpIf test width dst src (negsuc d)) behind n few = let h = few 0 in omega (arith, h)
longest_few (CallLocal off) behind n few = let h = few 0 in omega (arith, h)
longest_few Exit behind n few = omega arith

pub ways_few : (list : List Insn) (at : ℕ) → get_or (longest_ways list) at 0 ≤ length list
ways_few [] at = omega arith
ways_few (i ∷ rest) zero = longest_few i (longest_ways rest) (length rest) (ways_few rest)
ways_few (i ∷ rest) (suc at) = let h = ways_few rest at in omega (arith, h)

-- ---- the slots of a program whose instructions have one each

cell_at : (list : List Insn) (slot : ℕ) → get_or (map Some list) slot None ≡ slice_get list slot
cell_at [] slot = refl
cell_at (i ∷ list) zero = refl
cell_at (i ∷ list) (suc slot) = cell_at list slot

pub insn_is : (list : List Insn) (slot : ℕ) → IsNarrow list → insn_at list slot ≡ slice_get list slot
insn_is list slot h = ap (λ cells. get_or cells slot None) h.flat ∙ cell_at list slot

pub slots_are : (list : List Insn) → IsNarrow list → slots list ≡ length list
slots_are list h = ap length h.flat ∙ length-map list Some

-- ---- from the last slot to the first

pub record WaysFrom (list : List Insn) (from : ℕ) (ways : List ℕ) : Type 0 where
  pub long : length ways ≡ length list
  pub behind : drop from ways ≡ longest_ways (drop from list)

pub ways_first : (list : List Insn) (ways : List ℕ) → length ways ≡ length list → WaysFrom list (length list) ways
ways_first list ways long = record { long = long; behind = drop_all (length list) ways (omega arith) ∙ sym (ap longest_ways (drop_all (length list) list (omega arith))) }

pub ways_more : (list : List Insn) (slot : ℕ) (ways : List ℕ) (o : Option Insn) → slot < length list → o ≡ slice_get list slot → WaysFrom list (slot + 1) ways
    → WaysFrom list slot (slice_set ways slot (longest_if (drop (slot + 1) ways) o))
ways_more list slot ways o lt is h =
    let i : Insn = get_or list slot Exit in
    let some : o ≡ Some i = is ∙ slice_get-get_or list slot Exit lt in
    let v : ℕ = longest_if (drop (slot + 1) ways) o in
    let here : v ≡ longest_of i (longest_ways (drop (slot + 1) list)) = ap (longest_if (drop (slot + 1) ways)) some ∙ ap (longest_of i) h.behind in
    record {
      long = length-set ways slot v ∙ h.long;
      behind =
          drop-set ways slot v (omega (arith, h.long))
          ∙ ap₂ (λ x xs. x ∷ xs) here h.behind
          ∙ sym (ap longest_ways (drop_more list slot Exit lt));
    }

pub ways_whole : (list : List Insn) (from : ℕ) (ways : List ℕ) → from ≡ 0 → WaysFrom list from ways → ways ≡ longest_ways list
ways_whole list from ways none h = let e : WaysFrom list 0 ways = subst (λ n. WaysFrom list n ways) none h in e.behind

-- the ways that are behind a slot are short
pub behind_few : (list : List Insn) (from : ℕ) (ways : List ℕ) → IsNarrow list → WaysFrom list from ways → (at : ℕ) → get_or (drop from ways) at 0 ≤ max_slots
behind_few list from ways narrow h at =
    let few = ways_few (drop from list) at in
    let less = length_drop_less from list in
    let is : get_or (drop from ways) at 0 ≡ get_or (longest_ways (drop from list)) at 0 = ap (λ xs. get_or xs at 0) h.behind in
    let all = narrow.few in
    omega (arith, few, less, is, all)
  where
    length_drop_less : (n : ℕ) (list : List Insn) → length (drop n list) ≤ length list
    length_drop_less zero list = omega arith
    length_drop_less (suc n) [] = omega arith
    length_drop_less (suc n) (i ∷ list) = let h = length_drop_less n list in omega (arith, h)

-- ---- turns

pub turn_more : (list : List Insn) (ways : List ℕ) (slot most : ℕ) (o : Option Insn) → slot < length list → o ≡ slice_get list slot → max most (longest_turn ways slot (drop slot list)) ≡ longest_turn ways 0 list
    → max (max (back_if ways slot o) most) (longest_turn ways (slot + 1) (drop (slot + 1) list)) ≡ longest_turn ways 0 list
turn_more list ways slot most o lt is h =
    let i : Insn = get_or list slot Exit in
    let some : back_if ways slot o ≡ longest_back ways slot i = ap (back_if ways slot) (is ∙ slice_get-get_or list slot Exit lt) in
    let next : longest_turn ways slot (drop slot list) ≡ max (longest_back ways slot i) (longest_turn ways (suc slot) (drop (slot + 1) list)) = ap (longest_turn ways slot) (drop_more list slot Exit lt) in
    let n : suc slot ≡ slot + 1 = omega arith in
    let same : longest_turn ways (suc slot) (drop (slot + 1) list) ≡ longest_turn ways (slot + 1) (drop (slot + 1) list) = ap (λ n. longest_turn ways n (drop (slot + 1) list)) n in
    omega (arith, clamps, some, next, same, h)

pub turn_all : (list : List Insn) (ways : List ℕ) (slot most : ℕ) → length list ≤ slot → max most (longest_turn ways slot (drop slot list)) ≡ longest_turn ways 0 list → most ≡ longest_turn ways 0 list
turn_all list ways slot most past h =
    let none : longest_turn ways slot (drop slot list) ≡ 0 = ap (longest_turn ways slot) (drop_all slot list past) in
    omega (arith, clamps, none, h)
