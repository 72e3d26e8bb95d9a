-- Where templates stand: how long each is, and how far it is from one to another.
use Rattle.std.proofs.Common.{◌≡◌, ℕ, zero, suc, ◌+◌, ◌-◌, ◌≤◌, List, [], ◌∷◌, ◌++◌, length, drop, Bool, true, false, cond, Option, Some, None, refl, sym, ap, ap₂, ◌∙◌, subst, arith, length-append}
use Rattle.std.specs.Prelude.{pos, nat_lt, ◌&&◌, not, ◌==◌}
use Rattle.bpf_insn.specs.Instruction.{Instructions}
use Rattle.bpf_insn.specs.declared.instruction.Cond.{Cond}
use Rattle.bpf_insn.specs.declared.instruction.Insn.{Insn}
use Rattle.bpf_insn.specs.declared.instruction.Insn.TheVariants.{Alu as AluInsn, Load as LoadInsn, Ja, JumpIf as JumpIfInsn}
use Rattle.bpf_insn.specs.declared.instruction.Reg.TheVariants.{R0, R1, R2, R3}
use Rattle.bpf_insn.specs.declared.instruction.Operand.TheVariants.{Imm}
use Rattle.bpf_insn.specs.declared.instruction.Width.TheVariants.{W32, W64}
use Rattle.bpf_insn.specs.declared.instruction.Size.TheVariants.{B}
use Rattle.bpf_insn.specs.declared.instruction.AluOp.TheVariants.{And as AndWith, Lsh as ShiftUp, Mov}
use Rattle.bpf_insn.specs.declared.instruction.Cond.TheVariants.{Eq as IsEq, Lt as IsLt}
use Rattle.bpf_classic.specs.Machine.{divides, shifts, same_op, same_test}
use Rattle.bpf_classic.specs.declared.instruction.Source.{Source}
use Rattle.bpf_classic.specs.declared.instruction.Op.{Op}
use Rattle.bpf_classic.specs.declared.instruction.Test.{Test}
use Rattle.bpf_classic.specs.declared.instruction.Classic.{Classic}
use Rattle.bpf_classic.specs.declared.instruction.Classic.TheVariants.{Constant, Length, Cell, Store, At, Index, Header, Extension, Alu, Neg, Jump, Back, JumpIf, Return, ReturnA, Tax, Txa}
use Rattle.bpf_classic.specs.Template.{head, insn_size, constant, operand_of, is_beyond, is_register, is_masked, need, swap_of, length_test, load_code, alu_code, inverse, jump_code, unless_code, if_code, code_of, template, nowhere, size, total, ahead_in, trap_code, code}
use Rattle.bpf_classic.specs.declared.layout.Layout.{Layout}
use Rattle.bpf_classic.specs.declared.layout.Annotated.{Annotated}
use Rattle.bpf_classic.proofs.Steps.{HasAt, has_back, has_length}

-- ---- a template is as long whatever the distances are

abbrev Alike : List Insn → List Insn → Type 0
Alike a b = length a ≡ length b

alike_cond : (t : Bool) (a b a' b' : List Insn) → Alike a a' → Alike b b' → Alike (cond t a b) (cond t a' b')
alike_cond true a b a' b' x y = x
alike_cond false a b a' b' x y = y

alike_both : (a b a' b' : List Insn) → Alike a a' → Alike b b' → Alike (a ++ b) (a' ++ b')
alike_both a b a' b' x y = length-append a b ∙ ap₂ (λ m n. m + n) x y ∙ sym (length-append a' b')

pub alike_jump : (k d e : ℕ) → Alike (jump_code k d) (jump_code k e)
alike_jump k d e = alike_cond (k == 0) [] (Ja (pos d) ∷ []) [] (Ja (pos e) ∷ []) refl refl

alike_unless : (o : Option Cond) (source : Source) (d e : ℕ) → Alike (unless_code o source d) (unless_code o source e)
alike_unless None source d e = refl
alike_unless (Some c) source d e = refl

alike_test : (a : Annotated) (behind out : ℕ) → Alike (length_test a behind out) (length_test a behind 0)
alike_test a behind out = alike_cond (nat_lt a.known (need a.insn)) (JumpIfInsn IsLt W64 R2 (constant (need a.insn)) (pos (out + behind)) ∷ []) [] (JumpIfInsn IsLt W64 R2 (constant (need a.insn)) (pos (0 + behind)) ∷ []) [] refl refl

alike_load : (l : Layout) (a : Annotated) (i : Classic) (out : ℕ) → Alike (load_code l a i out) (load_code l a i 0)
alike_load l a (At size k) out =
    let behind = 1 + length (swap_of l size) in
    let tail : List Insn = LoadInsn (insn_size size) R0 R1 (pos (head l.form + k)) ∷ swap_of l size in
    alike_both (length_test a behind out) tail (length_test a behind 0) tail (alike_test a behind out) refl
alike_load l a (Index size k) out = refl
alike_load l a (Header k) out =
    let tail : List Insn = LoadInsn B R3 R1 (pos (head l.form + k)) ∷ AluInsn AndWith W32 R3 (Imm (pos 15)) ∷ AluInsn ShiftUp W32 R3 (Imm (pos 2)) ∷ [] in
    alike_both (length_test a 3 out) tail (length_test a 3 0) tail (alike_test a 3 out) refl
alike_load l a (Constant to k) out = refl
alike_load l a (Length to) out = refl
alike_load l a (Cell to cell) out = refl
alike_load l a (Store from cell) out = refl
alike_load l a (Extension word) out = refl
alike_load l a (Alu op source) out = refl
alike_load l a Neg out = refl
alike_load l a (Jump k) out = refl
alike_load l a (Back k) out = refl
alike_load l a (JumpIf test source jt jf) out = refl
alike_load l a (Return k) out = refl
alike_load l a ReturnA out = refl
alike_load l a Tax out = refl
alike_load l a Txa out = refl

two : (b c : Bool) (x y : Insn) (xs ys zs : List Insn) → Alike (cond b (x ∷ xs) (cond c ys zs)) (cond b (y ∷ xs) (cond c ys zs))
two true c x y xs ys zs = refl
two false c x y xs ys zs = refl

alike_alu : (l : Layout) (op : Op) (source : Source) (out : ℕ) → Alike (alu_code l op source out) (alu_code l op source 0)
alike_alu l op source out =
    let it : Insn = AluInsn (same_op op) W32 R0 (operand_of source) in
    two (is_register source && divides op) (is_register source && (shifts op && not (is_masked l)))
    (JumpIfInsn IsEq W32 R3 (Imm (pos 0)) (pos (out + 1))) (JumpIfInsn IsEq W32 R3 (Imm (pos 0)) (pos (0 + 1))) (it ∷ [])
    (JumpIfInsn IsLt W32 R3 (Imm (pos 32)) (pos 1) ∷ AluInsn Mov W32 R0 (Imm (pos 0)) ∷ it ∷ []) (it ∷ [])

alike_if : (test : Test) (source : Source) (jt jf a b : ℕ) → Alike (if_code test source jt jf a b) (if_code test source jt jf 0 0)
alike_if test source jt jf a b =
    let x : List Insn = JumpIfInsn (same_test test) W32 R0 (operand_of source) (pos (a + length (jump_code jf 0))) ∷ jump_code jf b in
    let y : List Insn = JumpIfInsn (same_test test) W32 R0 (operand_of source) (pos (0 + length (jump_code jf 0))) ∷ jump_code jf 0 in
    alike_cond (jt == jf) (jump_code jt a) (cond (jt == 0) (unless_code (inverse test) source b) x) (jump_code jt 0) (cond (jt == 0) (unless_code (inverse test) source 0) y)
    (alike_jump jt a 0)
    (alike_cond (jt == 0) (unless_code (inverse test) source b) x (unless_code (inverse test) source 0) y (alike_unless (inverse test) source b 0) (ap suc (alike_jump jf b 0)))

alike_code : (l : Layout) (a : Annotated) (i : Classic) (f : ℕ → ℕ) (out : ℕ) → Alike (code_of l a i f out) (code_of l a i nowhere 0)
alike_code l a (At size k) f out = alike_cond (is_beyond l (At size k)) (Ja (pos out) ∷ []) (load_code l a (At size k) out) (Ja (pos 0) ∷ []) (load_code l a (At size k) 0) refl (alike_load l a (At size k) out)
alike_code l a (Index size k) f out = alike_cond (is_beyond l (Index size k)) (Ja (pos out) ∷ []) (load_code l a (Index size k) out) (Ja (pos 0) ∷ []) (load_code l a (Index size k) 0) refl (alike_load l a (Index size k) out)
alike_code l a (Header k) f out = alike_cond (is_beyond l (Header k)) (Ja (pos out) ∷ []) (load_code l a (Header k) out) (Ja (pos 0) ∷ []) (load_code l a (Header k) 0) refl (alike_load l a (Header k) out)
alike_code l a (Constant to k) f out = refl
alike_code l a (Length to) f out = refl
alike_code l a (Cell to cell) f out = refl
alike_code l a (Store from cell) f out = refl
alike_code l a (Extension word) f out = refl
alike_code l a (Alu op source) f out = alike_alu l op source out
alike_code l a Neg f out = refl
alike_code l a (Jump k) f out = alike_jump k (f k) 0
alike_code l a (Back k) f out = refl
alike_code l a (JumpIf test source jt jf) f out = alike_if test source jt jf (f jt) (f jf)
alike_code l a (Return k) f out = refl
alike_code l a ReturnA f out = refl
alike_code l a Tax f out = refl
alike_code l a Txa f out = refl

pub template_length : (l : Layout) (a : Annotated) (f : ℕ → ℕ) (out : ℕ) → length (template l a f out) ≡ size l a
template_length l a f out = alike_cond a.reached (code_of l a a.insn f out) [] (code_of l a a.insn nowhere 0) [] (alike_code l a a.insn f out) refl

-- ---- from one template to another

total_less : (l : Layout) (k : ℕ) (rest : List Annotated) → total l (drop k rest) ≤ total l rest
total_less l zero rest = omega arith
total_less l (suc k) [] = omega arith
total_less l (suc k) (a ∷ rest) = let h = total_less l k rest in omega arith

pub code_at : (l : Layout) (p : Instructions) (rest : List Annotated) (k slot : ℕ) → HasAt p slot (code l rest) → HasAt p (slot + ahead_in l rest k) (code l (drop k rest))
code_at l p rest zero slot h = let e : slot ≡ slot + (total l rest - total l rest) = omega arith in subst (λ n. HasAt p n (code l rest)) e h
code_at l p [] (suc k) slot h = let e : slot ≡ slot + 0 = omega arith in subst (λ n. HasAt p n (code l [])) e h
code_at l p (a ∷ rest) (suc k) slot h =
    let long = template_length l a (ahead_in l rest) (total l rest) in
    let less = total_less l k rest in
    let behind = has_back p slot (template l a (ahead_in l rest) (total l rest)) (code l rest) h in
    let e : slot + length (template l a (ahead_in l rest) (total l rest)) + (total l rest - total l (drop k rest)) ≡ slot + (size l a + total l rest - total l (drop k rest)) = omega arith in
    subst (λ n. HasAt p n (code l (drop k rest))) e (code_at l p rest k (slot + length (template l a (ahead_in l rest) (total l rest))) behind)

pub trap_at : (l : Layout) (p : Instructions) (rest : List Annotated) (slot : ℕ) → l.trap ≡ true → HasAt p slot (code l rest) → HasAt p (slot + total l rest) trap_code
trap_at l p [] slot t h =
    let here : HasAt p slot trap_code = subst (λ b. HasAt p slot (cond b trap_code [])) t h in
    let e : slot ≡ slot + 0 = omega arith in subst (λ n. HasAt p n trap_code) e here
trap_at l p (a ∷ rest) slot t h =
    let long = template_length l a (ahead_in l rest) (total l rest) in
    let behind = has_back p slot (template l a (ahead_in l rest) (total l rest)) (code l rest) h in
    let e : slot + length (template l a (ahead_in l rest) (total l rest)) + total l rest ≡ slot + (size l a + total l rest) = omega arith in
    subst (λ n. HasAt p n trap_code) e (trap_at l p rest (slot + length (template l a (ahead_in l rest) (total l rest))) t behind)

-- the slots from one template on, and the exit that answers 0, are all that stand there
abbrev trap_slots : Layout → ℕ
trap_slots l = length (code l [])

pub code_length : (l : Layout) (list : List Annotated) → length (code l list) ≡ total l list + trap_slots l
code_length l [] = omega arith
code_length l (a ∷ rest) =
    let long = template_length l a (ahead_in l rest) (total l rest) in
    let both = length-append (template l a (ahead_in l rest) (total l rest)) (code l rest) in
    let more = code_length l rest in
    omega (arith, long, both, more)

-- where two templates stand tells how far it is from one to the other
pub slots_between : (l : Layout) (p : Instructions) (here there : List Annotated) (slot to : ℕ) → HasAt p slot (code l here) → HasAt p to (code l there) → slot + total l here ≡ to + total l there
slots_between l p here there slot to h t =
    let a = has_length p slot (code l here) h in
    let b = has_length p to (code l there) t in
    let c = code_length l here in
    let d = code_length l there in
    omega (arith, a, b, c, d)
