-- No template has a flaw, nor the exit behind them.
use Rattle.std.proofs.Common.{◌≡◌, ℕ, ◌+◌, List, [], ◌∷◌, ◌++◌, length, Bool, true, false, cond, Option, refl, sym, ap, ◌∙◌, subst, ⊎_elim, arith}
use Rattle.std.specs.Prelude.{not, ◌&&◌}
use Rattle.std.proofs.lemmas.Bool.{cond-false, and_parts, false≢true}
use Rattle.bpf_insn.specs.Instruction.{Instructions}
use Rattle.bpf_insn.specs.declared.instruction.Reg.TheVariants.{R0, R3, R10}
use Rattle.bpf_insn.specs.declared.instruction.Operand.TheVariants.{Reg as FromReg}
use Rattle.bpf_insn.specs.declared.instruction.Width.TheVariants.{W32}
use Rattle.bpf_insn.specs.declared.instruction.Size.TheVariants.{DW}
use Rattle.bpf_insn.specs.declared.instruction.AluOp.TheVariants.{Mov}
use Rattle.bpf_insn.specs.declared.instruction.Insn.{Insn}
use Rattle.bpf_insn.specs.declared.instruction.Insn.TheVariants.{Alu as AluInsn, Neg as NegInsn, Load, Store as StoreInsn}
use Rattle.bpf_cert.specs.View.{CertificateView}
use Rattle.bpf_safety.specs.Flow.{Arrival}
use Rattle.bpf_classic.specs.Auxiliary.{offset_of}
use Rattle.bpf_classic.specs.Machine.{same_op, divides, shifts}
use Rattle.bpf_classic.specs.declared.instruction.Register.TheVariants.{A, X}
use Rattle.bpf_classic.specs.declared.instruction.Op.{Op}
use Rattle.bpf_classic.specs.declared.instruction.Source.TheVariants.{K, X as FromX}
use Rattle.bpf_classic.specs.declared.instruction.Classic.{Classic}
use Rattle.bpf_classic.specs.declared.instruction.Classic.TheVariants.{Constant, Length, Cell, Store, At, Index, Header, Extension, Alu, Neg, Jump, Back, JumpIf, Return, ReturnA, Tax, Txa}
use Rattle.bpf_classic.specs.Template.{is_masked, constant, operand_of, cell_offset, length_insn, length_offset, word_insn, trap_code, code_of, template, size, total, ahead_in, code}
use Rattle.bpf_classic.specs.Flow.{implies, agrees, all_agree}
use Rattle.bpf_classic.specs.declared.layout.Layout.{Layout}
use Rattle.bpf_classic.specs.declared.layout.Annotated.{Annotated}
use Rattle.bpf_classic.proofs.Steps.{HasAt, has_back}
use Rattle.bpf_classic.proofs.Places.{template_length}
use Rattle.bpf_conversion.specs.Leaders.{is_leader}
use Rattle.bpf_conversion.specs.Claim.{claim_of}
use Rattle.bpf_conversion.proofs.Visits.{Clean}
use Rattle.bpf_conversion.proofs.Starts.{StandsAt, further}
use Rattle.bpf_conversion.proofs.Plain.{Ready, Falls}
use Rattle.bpf_conversion.proofs.Words.{Place, Going, constant_a, constant_x, negation, to_x, to_a}
use Rattle.bpf_conversion.proofs.Contexts.{length_a, length_x, extension, store_a, store_x, operation}
use Rattle.bpf_conversion.proofs.CellLoads.{cell_a, cell_x}
use Rattle.bpf_conversion.proofs.TemplateEdges.{World}
use Rattle.bpf_conversion.proofs.Inner.{laid, ready_led}
use Rattle.bpf_conversion.proofs.Ends.{Whole, return_a, return_constant, trapped}
use Rattle.bpf_conversion.proofs.Jumps.{jump, test_of_a}
use Rattle.bpf_conversion.proofs.Loads.{at_constant, header}
use Rattle.bpf_conversion.proofs.Indexed.{indexed}
use Rattle.bpf_conversion.proofs.Alus.{division, shift}
use Rattle.bpf_conversion.proofs.Backs.{back}

module _ (l : Layout) (marked : List Annotated) (p : Instructions) (w : World l marked p) where
  abbrev c : CertificateView
  c = claim_of l marked p.list

  module _ (slot k : ℕ) (b : Annotated) (behind : List Annotated) (passed : Option Arrival) where
    -- a template of one instruction
    one : (i : Insn) → ((f : ℕ → ℕ) (out : ℕ) → code_of l b b.insn f out ≡ i ∷ []) → (Place l marked p slot k b behind → Ready l marked p slot (b ∷ behind) passed → Going l marked p (slot + 1) behind → Clean p c slot passed (code l (b ∷ behind))) → Whole l marked p w slot k b behind passed
    one i written ends h ready go =
        let long = (laid l marked p w slot k b behind (i ∷ []) h (written (ahead_in l behind) (total l behind))).long in
        let next : slot + size l b ≡ slot + 1 = omega (arith, long) in
        ends h ready (subst (λ n. Going l marked p n behind) next go)

    by_x : (op : Op) → b.insn ≡ Alu op FromX → Whole l marked p w slot k b behind passed
    by_x op is = by_division (divides op) refl
      where
        by_shift : divides op ≡ false → (t : Bool) → (shifts op && not (is_masked l)) ≡ t → Whole l marked p w slot k b behind passed
        by_shift d true s = shift l marked p w op b behind is slot k passed d s
        by_shift d false s =
            one (AluInsn (same_op op) W32 R0 (operand_of FromX)) (λ f out. ap (λ j. code_of l b j f out) is ∙ cond-false (divides op) _ _ d ∙ cond-false (shifts op && not (is_masked l)) _ _ s)
            (operation l marked p w.narrow w.small slot k op FromX b behind passed is d s)

        by_division : (t : Bool) → divides op ≡ t → Whole l marked p w slot k b behind passed
        by_division true d = division l marked p w op b behind is slot k passed d
        by_division false d = by_shift d (shifts op && not (is_masked l)) refl

    whole : (i : Classic) → b.insn ≡ i → Whole l marked p w slot k b behind passed
    whole (Constant A n) is = one (AluInsn Mov W32 R0 (constant n)) (λ f out. ap (λ j. code_of l b j f out) is) (constant_a l marked p w.narrow w.small slot k n b behind passed is)
    whole (Constant X n) is = one (AluInsn Mov W32 R3 (constant n)) (λ f out. ap (λ j. code_of l b j f out) is) (constant_x l marked p w.narrow w.small slot k n b behind passed is)
    whole (Length A) is = one (length_insn l.form (length_offset l) R0) (λ f out. ap (λ j. code_of l b j f out) is) (length_a l marked p w.narrow w.small slot k b behind passed w.fits is)
    whole (Length X) is = one (length_insn l.form (length_offset l) R3) (λ f out. ap (λ j. code_of l b j f out) is) (length_x l marked p w.narrow w.small slot k b behind passed w.fits is)
    whole (Cell A cell) is = one (Load DW R0 R10 (cell_offset cell)) (λ f out. ap (λ j. code_of l b j f out) is) (cell_a l marked p w.narrow w.small slot k cell b behind passed is)
    whole (Cell X cell) is = one (Load DW R3 R10 (cell_offset cell)) (λ f out. ap (λ j. code_of l b j f out) is) (cell_x l marked p w.narrow w.small slot k cell b behind passed is)
    whole (Store A cell) is = one (StoreInsn DW R10 (cell_offset cell) R0) (λ f out. ap (λ j. code_of l b j f out) is) (store_a l marked p w.narrow w.small slot k cell b behind passed is)
    whole (Store X cell) is = one (StoreInsn DW R10 (cell_offset cell) R3) (λ f out. ap (λ j. code_of l b j f out) is) (store_x l marked p w.narrow w.small slot k cell b behind passed is)
    whole (At size n) is = at_constant l marked p w slot k n size b behind passed is
    whole (Index size n) is = indexed l marked p w size n b behind is slot k passed
    whole (Header n) is = header l marked p w slot k n b behind passed is
    whole (Extension word) is = one (word_insn l.form (offset_of word)) (λ f out. ap (λ j. code_of l b j f out) is) (extension l marked p w.narrow w.small slot k word b behind passed w.fits is)
    whole (Alu op (K n)) is = one (AluInsn (same_op op) W32 R0 (operand_of (K n))) (λ f out. ap (λ j. code_of l b j f out) is) (operation l marked p w.narrow w.small slot k op (K n) b behind passed is refl refl)
    whole (Alu op FromX) is = by_x op is
    whole Neg is = one (NegInsn W32 R0) (λ f out. ap (λ j. code_of l b j f out) is) (negation l marked p w.narrow w.small slot k b behind passed is)
    whole (Jump n) is = jump l marked p w slot k n b behind passed is
    whole (Back n) is = back l marked p w n b behind is slot k passed
    whole (JumpIf test source jt jf) is = test_of_a l marked p w slot k test source jt jf b behind passed is
    whole (Return n) is = return_constant l marked p w slot k n b behind passed is
    whole ReturnA is = return_a l marked p w slot k b behind passed is
    whole Tax is = one (AluInsn Mov W32 R3 (FromReg R0)) (λ f out. ap (λ j. code_of l b j f out) is) (to_x l marked p w.narrow w.small slot k b behind passed is)
    whole Txa is = one (AluInsn Mov W32 R0 (FromReg R3)) (λ f out. ap (λ j. code_of l b j f out) is) (to_a l marked p w.narrow w.small slot k b behind passed is)

  -- the exit, if there is one
  exit_clean : (slot k : ℕ) (passed : Option Arrival) → StandsAt l marked k slot [] → HasAt p slot (code l []) → is_leader p.list slot ≡ true → Clean p c slot passed (code l [])
  exit_clean slot k passed stands has leads = by_trap l.trap refl has
    where
      by_trap : (t : Bool) → l.trap ≡ t → HasAt p slot (cond t trap_code []) → Clean p c slot passed (cond t trap_code [])
      by_trap true e has = trapped l marked p w slot k passed stands has leads
      by_trap false e has = refl

  -- the templates of all instructions from one on
  pub templates_clean : (rest : List Annotated) (slot k : ℕ) (passed : Option Arrival) → StandsAt l marked k slot rest → HasAt p slot (code l rest) → all_agree l rest ≡ true → Ready l marked p slot rest passed → Clean p c slot passed (code l rest)
  templates_clean [] slot k passed stands has agree ready = exit_clean slot k passed stands has ready
  templates_clean (b ∷ behind) slot k passed stands has agree ready =
      let long = template_length l b (ahead_in l behind) (total l behind) in
      let next : slot + size l b + ahead_in l behind 0 ≡ slot + size l b = omega arith in
      let stands' : StandsAt l marked (k + 1 + 0) (slot + size l b) behind = subst (λ n. StandsAt l marked (k + 1 + 0) n behind) next (further l marked k slot 0 b behind stands) in
      let at : slot + length (template l b (ahead_in l behind) (total l behind)) ≡ slot + size l b = omega (arith, long) in
      let has' : HasAt p (slot + size l b) (code l behind) = subst (λ n. HasAt p n (code l behind)) at (has_back p slot (template l b (ahead_in l behind) (total l behind)) (code l behind) has) in
      let others = (and_parts (implies b.reached (agrees l b behind)) (all_agree l behind) agree).1 in
      by_reached b.reached refl (λ o ready. templates_clean behind (slot + size l b) (k + 1 + 0) o stands' has' others ready)
    where
      by_reached : (t : Bool) → b.reached ≡ t → Going l marked p (slot + size l b) behind → Clean p c slot passed (code l (b ∷ behind))
      by_reached true e go = whole slot k b behind passed b.insn refl (record { stands = stands; has = has; agree = agree; reached = e }) ready go
      by_reached false e go =
          let none : template l b (ahead_in l behind) (total l behind) ≡ [] = cond-false b.reached _ [] e in
          let long = template_length l b (ahead_in l behind) (total l behind) in
          let zero_is : length (template l b (ahead_in l behind) (total l behind)) ≡ 0 = ap length none in
          let same : slot + size l b ≡ slot = omega (arith, long, zero_is) in
          subst (Clean p c slot passed) (sym (ap (λ xs. xs ++ code l behind) none))
          (subst (λ n. Going l marked p n behind) same go passed
          (⊎_elim (λ (led : is_leader p.list slot ≡ true). ready_led l marked p w slot behind passed led) (λ (f : Falls l marked p slot b passed). absurd (false≢true (sym e ∙ f.reached))) ready))
