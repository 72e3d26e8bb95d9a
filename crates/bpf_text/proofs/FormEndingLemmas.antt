-- Each front of a form is completed by one of the endings of the code: loads, stores and atomic operations, and then every form.
use Rattle.std.proofs.Common.{◌≡◌, Bool, true, false, List, [], ◌∷◌, ◌++◌, Option, Some, None, option_map, refl, sym, ap, ◌∙◌, append_assoc, append-nil}
use Rattle.std.specs.Prelude.{codes, ℤ, pos, neg_ℤ, is_some}
use Rattle.bpf_insn.specs.Instruction.{word_size}
use Rattle.bpf_insn.specs.declared.instruction.Reg.{Reg}
use Rattle.bpf_insn.specs.declared.instruction.Reg.TheVariants.{R1}
use Rattle.bpf_insn.specs.declared.instruction.Size.{Size}
use Rattle.bpf_insn.specs.declared.instruction.Size.TheVariants.{DW}
use Rattle.bpf_insn.specs.declared.instruction.Width.TheVariants.{W64}
use Rattle.bpf_insn.specs.declared.instruction.Operand.{Operand}
use Rattle.bpf_insn.specs.declared.instruction.Modify.{Modify}
use Rattle.bpf_insn.specs.declared.instruction.Modify.TheVariants.{Add as AddTo, Or as OrTo, And as AndTo, Xor as XorTo}
use Rattle.bpf_insn.specs.declared.instruction.AtomicOp.{AtomicOp}
use Rattle.bpf_insn.specs.declared.instruction.AtomicOp.TheVariants.{Modify as Changes, Xchg, CmpXchg}
use Rattle.bpf_insn.specs.declared.instruction.Operand.TheVariants.{Imm}
use Rattle.bpf_insn.specs.declared.instruction.Insn.TheVariants.{Atomic}
use Rattle.bpf_text.specs.declared.line.LineFault.{LineFault}
use Rattle.bpf_text.specs.declared.spelling.Memory.{Memory}
use Rattle.bpf_text.specs.declared.spelling.Memory.TheVariants.{Unsigned}
use Rattle.bpf_text.specs.Numerals.{fits_16}
use Rattle.bpf_text.specs.Spelling.{register_text, modify_text}
use Rattle.bpf_text.specs.Statements.{plain, load_of, store_of}
use Rattle.bpf_text.specs.Grammar.{Token, tokens, number_value, constant_tokens, Address, operand_tokens, address_tokens, is_loaded, Form, form_tokens, form_said, operand_said, offset_said}
use Rattle.bpf_text.specs.Grammar.{OperandForm}
use Rattle.bpf_text.specs.Grammar.Token.{word, mark}
use Rattle.bpf_text.specs.Stop.{passes}
use Rattle.bpf_text.specs.code.Endings.{endings}
use Rattle.bpf_text.proofs.EndingLemmas.{Fronts, joined, five, nought, small, none, at, Completed, by, safe, keeps, exits, constant_fronts, assigns, assigned, calculate_fronts, negate_fronts, extend_fronts, swap_fronts, wide_fronts, goto_fronts, goto_long_fronts, call_fronts, branch_fronts}

-- ---- loads and stores

near : (minus : Bool) → fits_16 (number_value (none minus)) ≡ Some (pos 0)
unfolding nought
near true = refl
near false = refl

loaded : (fault : LineFault) (memory : Memory) (is : is_loaded memory ≡ true) (dst base : Reg) (minus : Bool) → passes fault (Some (form_said (Form.load memory is dst (at base (none minus))))) ≡ true
loaded fault memory is dst base minus = safe fault (Form.load memory is dst (at base (none minus))) (ap (λ o. is_some (option_map plain (option_map (load_of memory dst base) o))) (near minus))

load_fronts : (fault : LineFault) (memory : Memory) (is : is_loaded memory ≡ true) (dst : Reg) (a : Address) → passes fault (Some (form_said (Form.load memory is dst a))) ≡ true → Fronts (Completed fault) (form_tokens (Form.load memory is dst a))
unfolding endings nought
load_fronts fault memory is dst a h = (
  exits fault,
  (
    assigns fault W64 dst,
    (
      assigned fault W64 dst,
      (
        by (codes "(u64 *)(r1 + 0)") refl (Form.load (Unsigned DW) refl dst (at R1 (none false))) refl (loaded fault (Unsigned DW) refl dst R1 false),
        (
          by (codes "u64 *)(r1 + 0)") refl (Form.load (Unsigned DW) refl dst (at R1 (none false))) refl (loaded fault (Unsigned DW) refl dst R1 false),
          (
            by (codes "*)(r1 + 0)") refl (Form.load memory is dst (at R1 (none false))) refl (loaded fault memory is dst R1 false),
            (
              by (codes ")(r1 + 0)") refl (Form.load memory is dst (at R1 (none false))) refl (loaded fault memory is dst R1 false),
              (
                by (codes "(r1 + 0)") refl (Form.load memory is dst (at R1 (none false))) refl (loaded fault memory is dst R1 false),
                (
                  by (codes "r1 + 0)") refl (Form.load memory is dst (at R1 (none false))) refl (loaded fault memory is dst R1 false),
                  (
                    by (codes "+ 0)") refl (Form.load memory is dst (at a.base (none false))) refl (loaded fault memory is dst a.base false),
                    (
                      by (codes "0)") refl (Form.load memory is dst (at a.base (none a.off.minus))) refl (loaded fault memory is dst a.base a.off.minus),
                      (
                        by (codes ")") refl (Form.load memory is dst a) refl (h),
                        by [] refl (Form.load memory is dst a) refl h,
                      ),
                    ),
                  ),
                ),
              ),
            ),
          ),
        ),
      ),
    ),
  ),
)

abbrev five_here : OperandForm
five_here = OperandForm.constant (small false)

stored : (fault : LineFault) (size : Size) (base : Reg) (minus : Bool) → passes fault (Some (form_said (Form.store size (at base (none minus)) five_here))) ≡ true
unfolding five
stored fault size base minus = safe fault (Form.store size (at base (none minus)) five_here) (ap (λ o. is_some (option_map plain (store_of size base o (operand_said five_here)))) (near minus))

-- where an operand is in its range, so is the offset beside another one
store_keeps : (size : Size) (base : Reg) (off : Option ℤ) (src : Option Operand) (z : ℤ) → is_some (option_map plain (store_of size base off src)) ≡ true → is_some (option_map plain (store_of size base off (Some (Imm z)))) ≡ true
store_keeps size base (Some off) src z h = refl
store_keeps size base None src z h = h

stored_at : (fault : LineFault) (size : Size) (a : Address) (src : OperandForm) (minus : Bool) → passes fault (Some (form_said (Form.store size a src))) ≡ true → passes fault (Some (form_said (Form.store size a (OperandForm.constant (small minus))))) ≡ true
unfolding five
stored_at fault size a src true h = keeps fault (Form.store size a src) (Form.store size a (OperandForm.constant (small true))) (store_keeps size a.base (offset_said a) (operand_said src) (neg_ℤ (pos 5))) h
stored_at fault size a src false h = keeps fault (Form.store size a src) (Form.store size a (OperandForm.constant (small false))) (store_keeps size a.base (offset_said a) (operand_said src) (pos 5)) h

stored_fronts : (fault : LineFault) (size : Size) (a : Address) (src : OperandForm) → passes fault (Some (form_said (Form.store size a src))) ≡ true → Fronts (λ f. Completed fault (address_tokens (Unsigned size) a ++ mark 61 ∷ f)) (operand_tokens W64 src)
unfolding endings five
stored_fronts fault size a (OperandForm.register r) h = (
  by (codes "5") refl (Form.store size a five_here) refl (stored_at fault size a (OperandForm.register r) false h),
  by [] refl (Form.store size a (OperandForm.register r)) refl h,
)
stored_fronts fault size a (OperandForm.constant n) h =
    constant_fronts (λ f. Completed fault (address_tokens (Unsigned size) a ++ mark 61 ∷ f)) n.minus n.numeral.digits
    (by (codes "5") refl (Form.store size a five_here) refl (stored_at fault size a (OperandForm.constant n) false h))
    (by (codes "5") refl (Form.store size a (OperandForm.constant (small true))) refl (stored_at fault size a (OperandForm.constant n) true h))
    (by [] refl (Form.store size a (OperandForm.constant n)) (ap (λ z. address_tokens (Unsigned size) a ++ mark 61 ∷ z) (sym (append-nil (constant_tokens n)))) h)

store_fronts : (fault : LineFault) (size : Size) (a : Address) (src : OperandForm) → passes fault (Some (form_said (Form.store size a src))) ≡ true → Fronts (Completed fault) (form_tokens (Form.store size a src))
unfolding endings nought five
store_fronts fault size a src h = (
  exits fault,
  (
    by (codes "(u64 *)(r1 + 0) = 5") refl (Form.store DW (at R1 (none false)) five_here) refl (stored fault DW R1 false),
    (
      by (codes "u64 *)(r1 + 0) = 5") refl (Form.store DW (at R1 (none false)) five_here) refl (stored fault DW R1 false),
      (
        by (codes "*)(r1 + 0) = 5") refl (Form.store size (at R1 (none false)) five_here) refl (stored fault size R1 false),
        (
          by (codes ")(r1 + 0) = 5") refl (Form.store size (at R1 (none false)) five_here) refl (stored fault size R1 false),
          (
            by (codes "(r1 + 0) = 5") refl (Form.store size (at R1 (none false)) five_here) refl (stored fault size R1 false),
            (
              by (codes "r1 + 0) = 5") refl (Form.store size (at R1 (none false)) five_here) refl (stored fault size R1 false),
              (
                by (codes "+ 0) = 5") refl (Form.store size (at a.base (none false)) five_here) refl (stored fault size a.base false),
                (
                  by (codes "0) = 5") refl (Form.store size (at a.base (none a.off.minus)) five_here) refl (stored fault size a.base a.off.minus),
                  (
                    by (codes ") = 5") refl (Form.store size a five_here) refl (stored_at fault size a src false h),
                    (
                      by (codes "= 5") refl (Form.store size a five_here) refl (stored_at fault size a src false h),
                      stored_fronts fault size a src h,
                    ),
                  ),
                ),
              ),
            ),
          ),
        ),
      ),
    ),
  ),
)

-- ---- atomic operations

held : (fault : LineFault) (wide : Bool) (op : AtomicOp) (base : Reg) (minus : Bool) → passes fault (Some (form_said (Form.atomic wide op (at base (none minus)) R1))) ≡ true
held fault wide op base minus = safe fault (Form.atomic wide op (at base (none minus)) R1) (ap (λ o. is_some (option_map plain (option_map (λ off. Atomic wide op base off R1) o))) (near minus))

atomic_keeps : (wide : Bool) (op other : AtomicOp) (base src : Reg) (off : Option ℤ) → is_some (option_map plain (option_map (λ z. Atomic wide op base z src) off)) ≡ true → is_some (option_map plain (option_map (λ z. Atomic wide other base z R1) off)) ≡ true
atomic_keeps wide op other base src (Some off) h = refl
atomic_keeps wide op other base src None h = h

held_at : (fault : LineFault) (wide : Bool) (op other : AtomicOp) (a : Address) (src : Reg) → passes fault (Some (form_said (Form.atomic wide op a src))) ≡ true → passes fault (Some (form_said (Form.atomic wide other a R1))) ≡ true
held_at fault wide op other a src h = keeps fault (Form.atomic wide op a src) (Form.atomic wide other a R1) (atomic_keeps wide op other a.base src (offset_said a)) h

-- the marks and the register behind the memory operand
modify_fronts : (fault : LineFault) (lead : List Token) (wide fetch : Bool) (a : Address) → ((by : Modify) → form_tokens (Form.atomic wide (Changes by fetch) a R1) ≡ lead ++ (tokens (modify_text by) ++ word (codes "r1") ∷ []))
    → ((by : Modify) → passes fault (Some (form_said (Form.atomic wide (Changes by fetch) a R1))) ≡ true) → (by : Modify) → Fronts (λ f. Completed fault (lead ++ f)) (tokens (modify_text by))
unfolding endings
modify_fronts fault lead wide fetch a spelled passed AddTo = (
  by (codes "+= r1") refl (Form.atomic wide (Changes AddTo fetch) a R1) (spelled AddTo ∙ sym (append_assoc lead [] (tokens (codes "+= r1")))) (passed AddTo),
  (
    by (codes "= r1") refl (Form.atomic wide (Changes AddTo fetch) a R1) (spelled AddTo ∙ sym (append_assoc lead (mark 43 ∷ []) (tokens (codes "= r1")))) (passed AddTo),
    by (codes "r1") refl (Form.atomic wide (Changes AddTo fetch) a R1) (spelled AddTo ∙ sym (append_assoc lead (tokens (modify_text AddTo)) (tokens (codes "r1")))) (passed AddTo),
  ),
)
modify_fronts fault lead wide fetch a spelled passed OrTo = (
  by (codes "+= r1") refl (Form.atomic wide (Changes AddTo fetch) a R1) (spelled AddTo ∙ sym (append_assoc lead [] (tokens (codes "+= r1")))) (passed AddTo),
  (
    by (codes "= r1") refl (Form.atomic wide (Changes OrTo fetch) a R1) (spelled OrTo ∙ sym (append_assoc lead (mark 124 ∷ []) (tokens (codes "= r1")))) (passed OrTo),
    by (codes "r1") refl (Form.atomic wide (Changes OrTo fetch) a R1) (spelled OrTo ∙ sym (append_assoc lead (tokens (modify_text OrTo)) (tokens (codes "r1")))) (passed OrTo),
  ),
)
modify_fronts fault lead wide fetch a spelled passed AndTo = (
  by (codes "+= r1") refl (Form.atomic wide (Changes AddTo fetch) a R1) (spelled AddTo ∙ sym (append_assoc lead [] (tokens (codes "+= r1")))) (passed AddTo),
  (
    by (codes "= r1") refl (Form.atomic wide (Changes AndTo fetch) a R1) (spelled AndTo ∙ sym (append_assoc lead (mark 38 ∷ []) (tokens (codes "= r1")))) (passed AndTo),
    by (codes "r1") refl (Form.atomic wide (Changes AndTo fetch) a R1) (spelled AndTo ∙ sym (append_assoc lead (tokens (modify_text AndTo)) (tokens (codes "r1")))) (passed AndTo),
  ),
)
modify_fronts fault lead wide fetch a spelled passed XorTo = (
  by (codes "+= r1") refl (Form.atomic wide (Changes AddTo fetch) a R1) (spelled AddTo ∙ sym (append_assoc lead [] (tokens (codes "+= r1")))) (passed AddTo),
  (
    by (codes "= r1") refl (Form.atomic wide (Changes XorTo fetch) a R1) (spelled XorTo ∙ sym (append_assoc lead (mark 94 ∷ []) (tokens (codes "= r1")))) (passed XorTo),
    by (codes "r1") refl (Form.atomic wide (Changes XorTo fetch) a R1) (spelled XorTo ∙ sym (append_assoc lead (tokens (modify_text XorTo)) (tokens (codes "r1")))) (passed XorTo),
  ),
)

change_fronts : (fault : LineFault) (lead : List Token) (wide fetch : Bool) (a : Address) (by : Modify) (src : Reg) → ((by : Modify) (r : Reg) → form_tokens (Form.atomic wide (Changes by fetch) a r) ≡ lead ++ (tokens (modify_text by) ++ word (register_text W64 r) ∷ []))
    → passes fault (Some (form_said (Form.atomic wide (Changes by fetch) a src))) ≡ true → Fronts (λ f. Completed fault (lead ++ f)) (tokens (modify_text by) ++ word (register_text W64 src) ∷ [])
unfolding endings
change_fronts fault lead wide fetch a change src spelled h =
    joined (λ f. Completed fault (lead ++ f)) (tokens (modify_text change)) (word (register_text W64 src) ∷ [])
    (modify_fronts fault lead wide fetch a (λ m. spelled m R1) (λ m. held_at fault wide (Changes change fetch) (Changes m fetch) a src h) change) (
      by (codes "r1") refl (Form.atomic wide (Changes change fetch) a R1) (spelled change R1 ∙ behind [] (word (codes "r1") ∷ [])) (held_at fault wide (Changes change fetch) (Changes change fetch) a src h),
      by [] refl (Form.atomic wide (Changes change fetch) a src) (spelled change src ∙ behind (word (register_text W64 src) ∷ []) []) h,
    )
  where
    behind : (f more : List Token) → lead ++ (tokens (modify_text change) ++ (f ++ more)) ≡ (lead ++ (tokens (modify_text change) ++ f)) ++ more
    behind f more = ap (λ z. lead ++ z) (sym (append_assoc (tokens (modify_text change)) f more)) ∙ sym (append_assoc lead (tokens (modify_text change) ++ f) more)

atomic_fronts : (fault : LineFault) (wide : Bool) (op : AtomicOp) (a : Address) (src : Reg) → passes fault (Some (form_said (Form.atomic wide op a src))) ≡ true → Fronts (Completed fault) (form_tokens (Form.atomic wide op a src))
unfolding endings nought
atomic_fronts fault wide (Changes change true) a src h = (
  exits fault,
  (
    by (codes "*(u64 *)(r1 + 0) += r1") refl (Form.atomic true (Changes AddTo false) (at R1 (none false)) R1) refl (held fault true (Changes AddTo false) R1 false),
    (
      by (codes "*(u64 *)(r1 + 0) += r1") refl (Form.atomic true (Changes AddTo true) (at R1 (none false)) R1) refl (held fault true (Changes AddTo true) R1 false),
      (
        by (codes "(u64 *)(r1 + 0) += r1") refl (Form.atomic true (Changes AddTo true) (at R1 (none false)) R1) refl (held fault true (Changes AddTo true) R1 false),
        (
          by (codes "u64 *)(r1 + 0) += r1") refl (Form.atomic true (Changes AddTo true) (at R1 (none false)) R1) refl (held fault true (Changes AddTo true) R1 false),
          (
            by (codes "*)(r1 + 0) += r1") refl (Form.atomic wide (Changes AddTo true) (at R1 (none false)) R1) refl (held fault wide (Changes AddTo true) R1 false),
            (
              by (codes ")(r1 + 0) += r1") refl (Form.atomic wide (Changes AddTo true) (at R1 (none false)) R1) refl (held fault wide (Changes AddTo true) R1 false),
              (
                by (codes "(r1 + 0) += r1") refl (Form.atomic wide (Changes AddTo true) (at R1 (none false)) R1) refl (held fault wide (Changes AddTo true) R1 false),
                (
                  by (codes "r1 + 0) += r1") refl (Form.atomic wide (Changes AddTo true) (at R1 (none false)) R1) refl (held fault wide (Changes AddTo true) R1 false),
                  (
                    by (codes "+ 0) += r1") refl (Form.atomic wide (Changes AddTo true) (at a.base (none false)) R1) refl (held fault wide (Changes AddTo true) a.base false),
                    (
                      by (codes "0) += r1") refl (Form.atomic wide (Changes AddTo true) (at a.base (none a.off.minus)) R1) refl (held fault wide (Changes AddTo true) a.base a.off.minus),
                      (
                        by (codes ") += r1") refl (Form.atomic wide (Changes AddTo true) a R1) refl (held_at fault wide (Changes change true) (Changes AddTo true) a src h),
                        change_fronts fault (word (codes "lock") ∷ word (codes "fetch") ∷ address_tokens (Unsigned (word_size wide)) a) wide true a change src (λ m r. refl) h,
                      ),
                    ),
                  ),
                ),
              ),
            ),
          ),
        ),
      ),
    ),
  ),
)
atomic_fronts fault wide (Changes change false) a src h = (
  exits fault,
  (
    by (codes "*(u64 *)(r1 + 0) += r1") refl (Form.atomic true (Changes AddTo false) (at R1 (none false)) R1) refl (held fault true (Changes AddTo false) R1 false),
    (
      by (codes "(u64 *)(r1 + 0) += r1") refl (Form.atomic true (Changes AddTo false) (at R1 (none false)) R1) refl (held fault true (Changes AddTo false) R1 false),
      (
        by (codes "u64 *)(r1 + 0) += r1") refl (Form.atomic true (Changes AddTo false) (at R1 (none false)) R1) refl (held fault true (Changes AddTo false) R1 false),
        (
          by (codes "*)(r1 + 0) += r1") refl (Form.atomic wide (Changes AddTo false) (at R1 (none false)) R1) refl (held fault wide (Changes AddTo false) R1 false),
          (
            by (codes ")(r1 + 0) += r1") refl (Form.atomic wide (Changes AddTo false) (at R1 (none false)) R1) refl (held fault wide (Changes AddTo false) R1 false),
            (
              by (codes "(r1 + 0) += r1") refl (Form.atomic wide (Changes AddTo false) (at R1 (none false)) R1) refl (held fault wide (Changes AddTo false) R1 false),
              (
                by (codes "r1 + 0) += r1") refl (Form.atomic wide (Changes AddTo false) (at R1 (none false)) R1) refl (held fault wide (Changes AddTo false) R1 false),
                (
                  by (codes "+ 0) += r1") refl (Form.atomic wide (Changes AddTo false) (at a.base (none false)) R1) refl (held fault wide (Changes AddTo false) a.base false),
                  (
                    by (codes "0) += r1") refl (Form.atomic wide (Changes AddTo false) (at a.base (none a.off.minus)) R1) refl (held fault wide (Changes AddTo false) a.base a.off.minus),
                    (
                      by (codes ") += r1") refl (Form.atomic wide (Changes AddTo false) a R1) refl (held_at fault wide (Changes change false) (Changes AddTo false) a src h),
                      change_fronts fault (word (codes "lock") ∷ address_tokens (Unsigned (word_size wide)) a) wide false a change src (λ m r. refl) h,
                    ),
                  ),
                ),
              ),
            ),
          ),
        ),
      ),
    ),
  ),
)
atomic_fronts fault wide Xchg a src h = (
  exits fault,
  (
    by (codes "*(u64 *)(r1 + 0) += r1") refl (Form.atomic true (Changes AddTo false) (at R1 (none false)) R1) refl (held fault true (Changes AddTo false) R1 false),
    (
      by (codes "*(u64 *)(r1 + 0), r1") refl (Form.atomic true Xchg (at R1 (none false)) R1) refl (held fault true Xchg R1 false),
      (
        by (codes "(u64 *)(r1 + 0), r1") refl (Form.atomic true Xchg (at R1 (none false)) R1) refl (held fault true Xchg R1 false),
        (
          by (codes "u64 *)(r1 + 0), r1") refl (Form.atomic true Xchg (at R1 (none false)) R1) refl (held fault true Xchg R1 false),
          (
            by (codes "*)(r1 + 0), r1") refl (Form.atomic wide Xchg (at R1 (none false)) R1) refl (held fault wide Xchg R1 false),
            (
              by (codes ")(r1 + 0), r1") refl (Form.atomic wide Xchg (at R1 (none false)) R1) refl (held fault wide Xchg R1 false),
              (
                by (codes "(r1 + 0), r1") refl (Form.atomic wide Xchg (at R1 (none false)) R1) refl (held fault wide Xchg R1 false),
                (
                  by (codes "r1 + 0), r1") refl (Form.atomic wide Xchg (at R1 (none false)) R1) refl (held fault wide Xchg R1 false),
                  (
                    by (codes "+ 0), r1") refl (Form.atomic wide Xchg (at a.base (none false)) R1) refl (held fault wide Xchg a.base false),
                    (
                      by (codes "0), r1") refl (Form.atomic wide Xchg (at a.base (none a.off.minus)) R1) refl (held fault wide Xchg a.base a.off.minus),
                      (
                        by (codes "), r1") refl (Form.atomic wide Xchg a R1) refl (held_at fault wide Xchg Xchg a src h),
                        (
                          by (codes ", r1") refl (Form.atomic wide Xchg a R1) refl (held_at fault wide Xchg Xchg a src h),
                          (
                            by (codes "r1") refl (Form.atomic wide Xchg a R1) refl (held_at fault wide Xchg Xchg a src h),
                            by [] refl (Form.atomic wide Xchg a src) refl h,
                          ),
                        ),
                      ),
                    ),
                  ),
                ),
              ),
            ),
          ),
        ),
      ),
    ),
  ),
)
atomic_fronts fault wide CmpXchg a src h = (
  exits fault,
  (
    by (codes "*(u64 *)(r1 + 0) += r1") refl (Form.atomic true (Changes AddTo false) (at R1 (none false)) R1) refl (held fault true (Changes AddTo false) R1 false),
    (
      by (codes "*(u64 *)(r1 + 0), r1") refl (Form.atomic true CmpXchg (at R1 (none false)) R1) refl (held fault true CmpXchg R1 false),
      (
        by (codes "(u64 *)(r1 + 0), r1") refl (Form.atomic true CmpXchg (at R1 (none false)) R1) refl (held fault true CmpXchg R1 false),
        (
          by (codes "u64 *)(r1 + 0), r1") refl (Form.atomic true CmpXchg (at R1 (none false)) R1) refl (held fault true CmpXchg R1 false),
          (
            by (codes "*)(r1 + 0), r1") refl (Form.atomic wide CmpXchg (at R1 (none false)) R1) refl (held fault wide CmpXchg R1 false),
            (
              by (codes ")(r1 + 0), r1") refl (Form.atomic wide CmpXchg (at R1 (none false)) R1) refl (held fault wide CmpXchg R1 false),
              (
                by (codes "(r1 + 0), r1") refl (Form.atomic wide CmpXchg (at R1 (none false)) R1) refl (held fault wide CmpXchg R1 false),
                (
                  by (codes "r1 + 0), r1") refl (Form.atomic wide CmpXchg (at R1 (none false)) R1) refl (held fault wide CmpXchg R1 false),
                  (
                    by (codes "+ 0), r1") refl (Form.atomic wide CmpXchg (at a.base (none false)) R1) refl (held fault wide CmpXchg a.base false),
                    (
                      by (codes "0), r1") refl (Form.atomic wide CmpXchg (at a.base (none a.off.minus)) R1) refl (held fault wide CmpXchg a.base a.off.minus),
                      (
                        by (codes "), r1") refl (Form.atomic wide CmpXchg a R1) refl (held_at fault wide CmpXchg CmpXchg a src h),
                        (
                          by (codes ", r1") refl (Form.atomic wide CmpXchg a R1) refl (held_at fault wide CmpXchg CmpXchg a src h),
                          (
                            by (codes "r1") refl (Form.atomic wide CmpXchg a R1) refl (held_at fault wide CmpXchg CmpXchg a src h),
                            by [] refl (Form.atomic wide CmpXchg a src) refl h,
                          ),
                        ),
                      ),
                    ),
                  ),
                ),
              ),
            ),
          ),
        ),
      ),
    ),
  ),
)

-- ---- every form

exit_fronts : (fault : LineFault) → Fronts (Completed fault) (form_tokens Form.exit)
unfolding endings
exit_fronts fault = (exits fault, by [] refl Form.exit refl (safe fault Form.exit refl))

pub all_fronts : (fault : LineFault) (form : Form) → passes fault (Some (form_said form)) ≡ true → Fronts (Completed fault) (form_tokens form)
all_fronts fault (Form.calculate op width dst src) h = calculate_fronts fault op width dst src h
all_fronts fault (Form.negate width dst) h = negate_fronts fault width dst
all_fronts fault (Form.extend width bits is dst src) h = extend_fronts fault width bits is dst src
all_fronts fault (Form.swap kind bits dst) h = swap_fronts fault kind bits dst
all_fronts fault (Form.load_constant dst n) h = wide_fronts fault dst n h
all_fronts fault (Form.load memory is dst a) h = load_fronts fault memory is dst a h
all_fronts fault (Form.store size a src) h = store_fronts fault size a src h
all_fronts fault (Form.atomic wide op a src) h = atomic_fronts fault wide op a src h
all_fronts fault (Form.branch test width dst src target) h = branch_fronts fault test width dst src target h
all_fronts fault (Form.goto target) h = goto_fronts fault target h
all_fronts fault (Form.goto_long target) h = goto_long_fronts fault target h
all_fronts fault (Form.call target) h = call_fronts fault target h
all_fronts fault Form.exit h = exit_fronts fault
