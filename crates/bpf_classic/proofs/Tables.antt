-- How many slots templates have, and the table of how many stand from each instruction on.
use Rattle.std.proofs.Common.{◌≡◌, ℕ, zero, suc, ◌+◌, ◌-◌, ◌*◌, ◌<◌, ◌≤◌, List, [], ◌∷◌, ◌++◌, length, drop, get_or, Bool, cond, Option, Some, None, sym, ap, ap₂, ◌∙◌, subst, ⊎_elim, arith, append_assoc, length-append}
use Rattle.std.specs.List.{range_with_len}
use Rattle.std.specs.Prelude.{pos, min, map, flat_map, nat_lt, slice_index, slice_set, not, ◌&&◌, ◌==◌}
use Rattle.std.proofs.lemmas.Bool.{cond_both, cases_eq, cases_lt}
use Rattle.std.proofs.lemmas.Int.{clamps}
use Rattle.std.proofs.lemmas.List.{length-map, get_or-map, drop_more, drop_all, drop-drop, length-drop, length-set, get_or_past, get_or-set_same, get_or-set_other}
use Rattle.std.proofs.Math.Seq.{map-set_same}
use Rattle.std.proofs.Math.Path.{fun_ext}
use Rattle.bpf_insn.specs.declared.instruction.Insn.{Insn}
use Rattle.bpf_insn.specs.declared.instruction.Insn.TheVariants.{Alu as AluInsn, Load as LoadInsn, StoreImm, Ja, JumpIf as JumpIfInsn}
use Rattle.bpf_insn.specs.declared.instruction.Reg.{Reg}
use Rattle.bpf_insn.specs.declared.instruction.Reg.TheVariants.{R0, R1, R2, R3, R5, R10}
use Rattle.bpf_insn.specs.declared.instruction.Operand.TheVariants.{Imm}
use Rattle.bpf_insn.specs.declared.instruction.Width.TheVariants.{W32, W64}
use Rattle.bpf_insn.specs.declared.instruction.Size.TheVariants.{B, DW}
use Rattle.bpf_insn.specs.declared.instruction.AluOp.TheVariants.{And as AndWith, Lsh as ShiftUp, Mov}
use Rattle.bpf_insn.specs.declared.instruction.Cond.TheVariants.{Eq as IsEq, Lt as IsLt}
use Rattle.bpf_classic.specs.Machine.{shifts, divides, same_op, same_test}
use Rattle.bpf_insn.specs.declared.instruction.EndBits.{EndBits}
use Rattle.bpf_insn.specs.declared.instruction.Cond.{Cond}
use Rattle.bpf_classic.specs.Valid.{max_filter}
use Rattle.bpf_classic.specs.declared.instruction.Source.{Source}
use Rattle.bpf_classic.specs.declared.instruction.LoadSize.{LoadSize}
use Rattle.bpf_classic.specs.declared.instruction.Classic.{Classic}
use Rattle.bpf_classic.specs.declared.instruction.Classic.TheVariants.{Constant, Length, Cell, Store, At, Index, Header, Extension, Alu, Neg, Jump, Back, JumpIf, Return, ReturnA, Tax, Txa}
use Rattle.bpf_classic.specs.Template.{head, is_block, is_swapped, is_masked, is_loaded, is_beyond, is_register, insn_size, need, constant, operand_of, cell_offset, room_insns, room_code, turns_code, zero_if, swap_if, swap_of, end_bits, length_test, load_code, jump_code, unless_code, inverse, code_of, template, nowhere, size, total, ahead_in, most_slots, from_on, way, IsTable, zero_cell, code, entry}
use Rattle.bpf_classic.specs.Flow.{implies, turns_well, all_turn}
use Rattle.bpf_classic.specs.Meaning.{insns, HasStarts}
use Rattle.bpf_classic.specs.declared.layout.Layout.{Layout}
use Rattle.bpf_classic.specs.declared.layout.Annotated.{Annotated}

-- ---- a template has six slots at most

abbrev Few : ℕ → List Insn → Type 0
Few n list = length list ≤ n

few_swap_if : (o : Option EndBits) → Few 1 (swap_if o)
few_swap_if None = omega arith
few_swap_if (Some bits) = omega arith

few_swap : (l : Layout) (size : LoadSize) → Few 1 (swap_of l size)
few_swap l size = cond_both (is_swapped l) (swap_if (end_bits size)) [] (Few 1) (λ _. few_swap_if (end_bits size)) (λ _. omega arith)

few_test : (a : Annotated) (behind : ℕ) → Few 1 (length_test a behind 0)
few_test a behind = cond_both (nat_lt a.known (need a.insn)) (JumpIfInsn IsLt W64 R2 (constant (need a.insn)) (pos (0 + behind)) ∷ []) [] (Few 1) (λ _. omega arith) (λ _. omega arith)

few_both : (a b : List Insn) (m n : ℕ) → Few m a → Few n b → Few (m + n) (a ++ b)
few_both a b m n fa fb = let both = length-append a b in omega (arith, both)

few_load : (l : Layout) (a : Annotated) (i : Classic) → Few 6 (load_code l a i 0)
few_load l a (At size k) =
    let behind = 1 + length (swap_of l size) in
    let load : Insn = LoadInsn (insn_size size) R0 R1 (pos (head l.form + k)) in
    let swap = few_swap l size in
    let both = few_both (length_test a behind 0) (load ∷ swap_of l size) 1 2 (few_test a behind) (omega arith) in
    omega (arith, both)
few_load l a (Index size k) = let swap = few_swap l size in omega arith
few_load l a (Header k) =
    let tail : List Insn = LoadInsn B R3 R1 (pos (head l.form + k)) ∷ AluInsn AndWith W32 R3 (Imm (pos 15)) ∷ AluInsn ShiftUp W32 R3 (Imm (pos 2)) ∷ [] in
    let both = few_both (length_test a 3 0) tail 1 3 (few_test a 3) (omega arith) in
    omega (arith, both)
few_load l a i = omega arith

few_jump : (k d : ℕ) → Few 1 (jump_code k d)
few_jump k d = cond_both (k == 0) [] (Ja (pos d) ∷ []) (Few 1) (λ _. omega arith) (λ _. omega arith)

few_unless : (o : Option Cond) (source : Source) → Few 2 (unless_code o source 0)
few_unless None source = omega arith
few_unless (Some test) source = omega arith

few_code : (l : Layout) (a : Annotated) (i : Classic) → Few 6 (code_of l a i nowhere 0)
few_code l a (At size k) = cond_both (is_beyond l (At size k)) (Ja (pos 0) ∷ []) (load_code l a (At size k) 0) (Few 6) (λ _. omega arith) (λ _. few_load l a (At size k))
few_code l a (Index size k) = cond_both (is_beyond l (Index size k)) (Ja (pos 0) ∷ []) (load_code l a (Index size k) 0) (Few 6) (λ _. omega arith) (λ _. few_load l a (Index size k))
few_code l a (Header k) = cond_both (is_beyond l (Header k)) (Ja (pos 0) ∷ []) (load_code l a (Header k) 0) (Few 6) (λ _. omega arith) (λ _. few_load l a (Header k))
few_code l a (Alu op source) =
    let it : Insn = AluInsn (same_op op) W32 R0 (operand_of source) in
    let two : List Insn = JumpIfInsn IsEq W32 R3 (Imm (pos 0)) (pos (0 + 1)) ∷ it ∷ [] in
    let three : List Insn = JumpIfInsn IsLt W32 R3 (Imm (pos 32)) (pos 1) ∷ AluInsn Mov W32 R0 (Imm (pos 0)) ∷ it ∷ [] in
    let shift = is_register source && (shifts op && not (is_masked l)) in
    cond_both (is_register source && divides op) two (cond shift three (it ∷ [])) (Few 6) (λ _. omega arith) (λ _. cond_both shift three (it ∷ []) (Few 6) (λ _. omega arith) (λ _. omega arith))
few_code l a (Jump k) = let few = few_jump k 0 in omega arith
few_code l a (Back k) = omega arith
few_code l a (JumpIf test source jt jf) =
    let one = few_jump jt 0 in
    let other = few_jump jf 0 in
    let less = few_unless (inverse test) source in
    let full : List Insn = JumpIfInsn (same_test test) W32 R0 (operand_of source) (pos (0 + length (jump_code jf 0))) ∷ jump_code jf 0 in
    let short : List Insn = unless_code (inverse test) source 0 in
    cond_both (jt == jf) (jump_code jt 0) (cond (jt == 0) short full) (Few 6) (λ _. omega arith) (λ _. cond_both (jt == 0) short full (Few 6) (λ _. omega arith) (λ _. omega arith))
few_code l a (Constant to k) = omega arith
few_code l a (Length to) = omega arith
few_code l a (Cell to cell) = omega arith
few_code l a (Store from cell) = omega arith
few_code l a (Extension word) = omega arith
few_code l a Neg = omega arith
few_code l a (Return k) = omega arith
few_code l a ReturnA = omega arith
few_code l a Tax = omega arith
few_code l a Txa = omega arith

pub size_few : (l : Layout) (a : Annotated) → size l a ≤ 6
size_few l a = cond_both a.reached (code_of l a a.insn nowhere 0) [] (Few 6) (λ _. few_code l a a.insn) (λ _. omega arith)

-- an entry has 22 slots at most
few_cells : (list : List Annotated) (n c : ℕ) → Few n (flat_map (zero_cell list) (range_with_len c n))
few_cells list zero c = omega arith
few_cells list (suc n) c =
    let one : Few 1 (zero_cell list c) = cond_both (is_loaded list c) (StoreImm DW R10 (cell_offset c) (pos 0) ∷ []) [] (Few 1) (λ _. omega arith) (λ _. omega arith) in
    let both = few_both (zero_cell list c) (flat_map (zero_cell list) (range_with_len (c + 1) n)) 1 n one (few_cells list n (c + 1)) in
    omega (arith, both)

few_zero : (t : Bool) (r : Reg) → Few 1 (zero_if t r)
few_zero t r = cond_both t (AluInsn Mov W64 r (Imm (pos 0)) ∷ []) [] (Few 1) (λ _. omega arith) (λ _. omega arith)

few_turns : (l : Layout) → Few 1 (turns_code l)
few_turns l = cond_both l.loops (AluInsn Mov W64 R5 (constant l.turns) ∷ []) [] (Few 1) (λ _. omega arith) (λ _. omega arith)

pub entry_few : (l : Layout) (list : List Annotated) → length (entry l list) ≤ 22
entry_few l list =
    let cells : List Insn = flat_map (zero_cell list) (range_with_len 0 16) in
    let zeros : List Insn = zero_if l.zero_a R0 ++ (zero_if l.zero_x R3 ++ cells) in
    let room : Few 3 (room_code l) = cond_both (is_block l.form) (room_insns l) [] (Few 3) (λ _. omega arith) (λ _. omega arith) in
    let two = few_both (zero_if l.zero_x R3) cells 1 16 (few_zero l.zero_x R3) (few_cells list 16 0) in
    let three = few_both (zero_if l.zero_a R0) (zero_if l.zero_x R3 ++ cells) 1 (1 + 16) (few_zero l.zero_a R0) two in
    let four = few_both (turns_code l) zeros 1 (1 + (1 + 16)) (few_turns l) three in
    let five = few_both (room_code l) (turns_code l ++ zeros) 3 (1 + (1 + (1 + 16))) room four in
    omega (arith, five)

pub total_few : (l : Layout) (list : List Annotated) → total l list ≤ 6 * length list
total_few l [] = omega arith
total_few l (a ∷ rest) = let here = size_few l a in let more = total_few l rest in omega arith

-- ---- the table, from the last instruction to the first

pub record TableFrom (l : Layout) (list : List Annotated) (from : ℕ) (table : List ℕ) (slots : ℕ) : Type 0 where
  pub long : length table ≡ length list
  pub here : slots ≡ total l (drop from list)
  pub behind : (at : ℕ) → from ≤ at → get_or table at 0 ≡ total l (drop at list)
  pub few : slots ≤ 6 * (length list - from)

nothing_behind : (l : Layout) (list : List Annotated) (at : ℕ) → length list ≤ at → 0 ≡ total l (drop at list)
nothing_behind l list at le = ap (total l) (sym (drop_all at list le))

pub table_first : (l : Layout) (list : List Annotated) (table : List ℕ) → length table ≡ length list → TableFrom l list (length list) table 0
table_first l list table long = record {
  long = long;
  here = nothing_behind l list (length list) (omega arith);
  behind = λ at le. get_or_past table at 0 (omega (arith, long)) ∙ nothing_behind l list at le;
  few = omega arith;
}

pub table_more : (l : Layout) (list : List Annotated) (at : ℕ) (table : List ℕ) (slots : ℕ) (a : Annotated) → at < length list → a ≡ get_or list at a → TableFrom l list (at + 1) table slots → TableFrom l list at (slice_set table at (slots + size l a)) (slots + size l a)
table_more l list at table slots a lt is h =
    let next : drop at list ≡ a ∷ drop (at + 1) list = drop_more list at a lt ∙ ap (λ x. x ∷ drop (at + 1) list) (sym is) in
    let whole : slots + size l a ≡ total l (drop at list) = (let e : slots + size l a ≡ size l a + total l (drop (at + 1) list) = omega (arith, h.here) in e ∙ ap (total l) (sym next)) in
    let six = size_few l a in
    let less = h.few in
    record {
      long = length-set table at (slots + size l a) ∙ h.long;
      here = whole;
      behind = λ j le. ⊎_elim
          (λ same. subst (λ j. get_or (slice_set table at (slots + size l a)) j 0 ≡ total l (drop j list)) (sym same) (get_or-set_same table at (slots + size l a) 0 (omega (arith, h.long)) ∙ whole))
          (λ other. get_or-set_other table at j (slots + size l a) 0 other ∙ h.behind j (⊎_elim (λ below. absurd (other (omega arith))) (λ above. above) (cases_lt j (at + 1))))
          (cases_eq j at);
      few = omega (arith, six, less);
    }

pub table_whole : (l : Layout) (list : List Annotated) (table : List ℕ) (slots : ℕ) → length list ≤ max_filter → TableFrom l list 0 table slots → IsTable l list table
table_whole l list table slots few h = (
  h.long,
  λ at.
      let t = total_few l (drop at list) in
      let d = length-drop at list in
      let e = h.behind at (omega arith) in
      let g : min (get_or table at 0) most_slots ≡ total l (drop at list) = omega (arith, clamps, t, d, e) in g,
)

-- ---- the templates, written by the table

pub way_is : (l : Layout) (list : List Annotated) (table : List ℕ) (from k : ℕ) → IsTable l list table → way table from k ≡ ahead_in l (drop from list) k
way_is l list table from k h =
    let e = drop-drop k from list in
    ap₂ (λ m n. m - n) (h.1 from) (h.1 (from + k) ∙ ap (total l) (sym e))

pub template_is : (l : Layout) (list : List Annotated) (table : List ℕ) (a : Annotated) (from : ℕ) → IsTable l list table → template l a (way table from) (from_on table from) ≡ template l a (ahead_in l (drop from list)) (total l (drop from list))
template_is l list table a from h = ap₂ (λ f out. template l a f out) (fun_ext (λ k. way_is l list table from k h)) (h.1 from)

-- one more template
pub templates_more : (l : Layout) (list : List Annotated) (table : List ℕ) (before after all : List Insn) (at : ℕ) (d : Annotated) → IsTable l list table → at < length list
    → after ≡ before ++ template l (get_or list at d) (way table (at + 1)) (from_on table (at + 1)) → before ++ code l (drop at list) ≡ all → after ++ code l (drop (at + 1) list) ≡ all
templates_more l list table before after all at d h lt here so_far =
    let a : Annotated = get_or list at d in
    ap (λ out. out ++ code l (drop (at + 1) list)) here
    ∙ append_assoc before (template l a (way table (at + 1)) (from_on table (at + 1))) (code l (drop (at + 1) list))
    ∙ ap (λ t. before ++ (t ++ code l (drop (at + 1) list))) (template_is l list table a (at + 1) h)
    ∙ ap (λ xs. before ++ code l xs) (sym (drop_more list at d lt))
    ∙ so_far

-- one more cell
pub cells_more : (list : List Annotated) (before after all : List Insn) (cell : ℕ) → cell < 16 → after ≡ before ++ zero_cell list cell → before ++ flat_map (zero_cell list) (range_with_len cell (16 - cell)) ≡ all
    → after ++ flat_map (zero_cell list) (range_with_len (cell + 1) (16 - (cell + 1))) ≡ all
cells_more list before after all cell lt here so_far =
    let left : ℕ = 16 - (cell + 1) in
    let more : List Insn = flat_map (zero_cell list) (range_with_len (cell + 1) left) in
    let one : suc left ≡ 16 - cell = omega arith in
    ap (λ out. out ++ more) here
    ∙ append_assoc before (zero_cell list cell) more
    ∙ ap (λ n. before ++ flat_map (zero_cell list) (range_with_len cell n)) one
    ∙ so_far

-- ---- where each template begins

pub starts_are : (l : Layout) (list : List Annotated) (table : List ℕ) (first : ℕ) → length list ≤ max_filter → IsTable l list table → first ≡ length (entry l list) → HasStarts l list (map (λ slots. first + (from_on table 0 - slots)) table)
starts_are l list table first few h is = (long ∙ h.0, each)
  where
    long : length (map (λ slots. first + (from_on table 0 - slots)) table) ≡ length table
    long = length-map table (λ slots. first + (from_on table 0 - slots))

    each : (at : ℕ) → at < length list → slice_index (map (λ slots. first + (from_on table 0 - slots)) table) at ≡ length (entry l list) + ahead_in l list at
    each at lt =
        let t = total_few l (drop at list) in
        let d = length-drop at list in
        let whole = h.1 0 in
        let here = h.1 at in
        get_or-map (λ slots. first + (from_on table 0 - slots)) table at 0 0 (omega (arith, h.0)) ∙ omega (arith, clamps, t, d, whole, here, is)

-- ---- the instructions stay the same

pub insns_kept : (list : List Annotated) (at : ℕ) (b a : Annotated) → a ≡ get_or list at a → b.insn ≡ a.insn → insns (slice_set list at b) ≡ insns list
insns_kept list at b a is same = map-set_same insn_of list at b a (same ∙ ap insn_of is)
  where
    insn_of : Annotated → Classic
    insn_of a = a.insn

-- ---- jumps back

-- whether each turns well, by the first and those behind it
pub turn_more : (l : Layout) (list : List Annotated) (table : List ℕ) (at : ℕ) (d : Annotated) → IsTable l list table → at < length list
    → all_turn l list (drop at list) ≡ (implies (get_or list at d).reached (turns_well l list (get_or list at d) (get_or list at d).insn (length list - (at + 1)) (from_on table (at + 1))) && all_turn l list (drop (at + 1) list))
turn_more l list table at d h lt =
    let a : Annotated = get_or list at d in
    ap (all_turn l list) (drop_more list at d lt)
    ∙ ap₂ (λ left slots. implies a.reached (turns_well l list a a.insn left slots) && all_turn l list (drop (at + 1) list)) (length-drop (at + 1) list) (sym (h.1 (at + 1)))
