-- What the templates of jumps do.
use Rattle.std.proofs.Common.{◌≡◌, ℕ, zero, suc, ◌+◌, List, [], ◌∷◌, ◌++◌, length, drop, Bool, true, false, cond, Some, refl, sym, ap, ap₂, ◌∙◌, subst, ⊎_elim, arith}
use Rattle.std.specs.Prelude.{pos, max, nat_lt, nat_le, slice_get, not, ◌&&◌, ◌==◌}
use Rattle.std.specs.Int.{cast_signed, w32}
use Rattle.std.proofs.lemmas.Bool.{and_parts, eqb-true, ne_eqb, cases_lt, lt-ltb, le-ltb, lt-leb, le-leb}
use Rattle.std.proofs.lemmas.Int.{clamps}
use Rattle.bpf_insn.specs.Arithmetic.{low, extended, compare, jumps}
use Rattle.bpf_insn.specs.Instruction.{Instructions}
use Rattle.bpf_insn.specs.declared.instruction.Reg.TheVariants.{R0, R3}
use Rattle.bpf_insn.specs.declared.instruction.Operand.TheVariants.{Imm, Reg as FromReg}
use Rattle.bpf_insn.specs.declared.instruction.Width.TheVariants.{W32}
use Rattle.bpf_insn.specs.declared.instruction.Cond.{Cond}
use Rattle.bpf_insn.specs.declared.instruction.Cond.TheVariants.{Eq as IsEq, Gt as IsGt, Ge as IsGe, Set as IsSet, Ne as IsNe, Lt as IsLt, Le as IsLe}
use Rattle.bpf_insn.specs.declared.instruction.Insn.{Insn}
use Rattle.bpf_insn.specs.declared.instruction.Insn.TheVariants.{Ja, JumpIf as JumpIfInsn}
use Rattle.bpf_semantics.specs.declared.value.Value.TheVariants.{Number}
use Rattle.bpf_classic.specs.Machine.{Given, Machine, operand, same_test, next, run_from}
use Rattle.bpf_classic.specs.declared.instruction.Source.{Source}
use Rattle.bpf_classic.specs.declared.instruction.Source.TheVariants.{K, X as FromX}
use Rattle.bpf_classic.specs.declared.instruction.Test.{Test}
use Rattle.bpf_classic.specs.declared.instruction.Test.TheVariants.{Eq, Gt, Ge, Set}
use Rattle.bpf_classic.specs.declared.instruction.Classic.TheVariants.{Jump, JumpIf}
use Rattle.bpf_classic.specs.Template.{room, operand_of, is_register, inverse, jump_code, unless_code, ahead_in, code}
use Rattle.bpf_classic.specs.Flow.{leads_to}
use Rattle.bpf_classic.specs.Meaning.{insns}
use Rattle.bpf_classic.specs.declared.layout.Layout.{Layout}
use Rattle.bpf_classic.specs.declared.layout.Annotated.{Annotated}
use Rattle.bpf_classic.proofs.Steps.{HasAt, Stands, Ends, Moves, after, either, has_back}
use Rattle.bpf_classic.proofs.Values.{constant_low, low_small}
use Rattle.bpf_classic.proofs.Places.{alike_jump}
use Rattle.bpf_classic.proofs.Machine.{Fixed, Now, at, goes, tests}
use Rattle.bpf_classic.proofs.Known.{or_right, implied, none_below, marked, Behind, Onward, Follows, straight, same_knows}
use Rattle.bpf_classic.proofs.Operations.{IsWord, word_of}

some_jump : (k d : ℕ) → jump_code (suc k) d ≡ Ja (pos d) ∷ []
some_jump k d = ap (λ b. cond b [] (Ja (pos d) ∷ [])) (ne_eqb (suc k) 0 (λ e. omega arith))

-- the test that fails where one holds
abbrev Opposes : Cond → Cond → Type 0
Opposes other test = (a b : ℕ) → jumps W32 other a b ≡ not (jumps W32 test a b)

twice : (t : Bool) → not (not t) ≡ t
twice true = refl
twice false = refl

not_above : (a b : ℕ) → nat_le a b ≡ not (nat_lt b a)
not_above a b = ⊎_elim (λ lt. lt-leb a b lt ∙ ap not (sym (lt-ltb b a lt))) (λ le. le-leb a b le ∙ ap not (sym (le-ltb b a le))) (cases_lt b a)

not_from : (a b : ℕ) → nat_lt a b ≡ not (nat_le b a)
not_from a b = ⊎_elim (λ lt. lt-ltb a b lt ∙ ap not (sym (lt-leb b a lt))) (λ le. le-ltb a b le ∙ ap not (sym (le-leb b a le))) (cases_lt a b)

module _ (l : Layout) (p : Instructions) (g : Given) (f : Fixed) (wanted : ℕ → Bool) where
  -- where a jump of so many instructions stands, or nothing, the run goes on there
  lands : (a : Annotated) (rest : List Annotated) (slot fuel v k : ℕ) (m : Machine) (w : Now) → HasAt p slot (jump_code k (ahead_in l rest k) ++ code l rest) → Onward l p g f wanted a rest fuel v
      → leads_to a (slice_get rest k) ≡ true → Behind l p g f wanted a m w → run_from f.back fuel g (drop k (insns rest)) m ≡ Some v → Ends p f.spare (at f slot w) v
  lands a rest slot fuel v zero m w has onward leads knows run = straight l p g f wanted a rest slot fuel v m w onward has leads knows run
  lands a rest slot fuel v (suc k) m w has onward leads knows run =
      let d = ahead_in l rest (suc k) in
      let has' : HasAt p slot (Ja (pos d) ∷ code l rest) = subst (λ c. HasAt p slot (c ++ code l rest)) (some_jump k d) has in
      after p (at f slot w) (at f (slot + 1 + d) w) v (goes p f slot w d has'.0) (onward (slot + 1) (suc k) m w has'.1 leads knows run)

  pub jump : (k : ℕ) → Follows l p g f wanted (Jump k)
  unfolding next
  jump k known sa sx over rest slot fuel v m w good has agree covers knows onward run =
      let more = knows.there in
      lands (marked (Jump k) known sa sx over) rest slot fuel v k m w has onward (or_right _ _ (none_below (room l)) agree.leads)
      (same_knows l p g f wanted known (max known 0) sa sx m w (omega (arith, clamps)) knows) run

  -- ---- tests

  test_moves : (source : Source) (test : Cond) (d slot : ℕ) (m : Machine) (w : Now) → IsWord source → w.r0 ≡ Some (Number m.a) → (is_register source ≡ true → w.r3 ≡ Some (Number m.x))
      → Stands p slot (JumpIfInsn test W32 R0 (operand_of source) (pos d))
      → Moves p (at f slot w) (cond (jumps W32 test m.a (operand source m)) (at f (slot + 1 + d) w) (at f (slot + 1) w))
  test_moves (K k) test d slot m w word a_is x_is here =
      let z = cast_signed w32 k in
      subst (λ t. Moves p (at f slot w) (cond t (at f (slot + 1 + d) w) (at f (slot + 1) w)))
      (ap (compare w32 test (low W32 m.a)) (constant_low k word ∙ sym (low_small k word)))
      (tests p f slot w W32 test R0 (Imm z) m.a (extended z) d here a_is refl)
  test_moves FromX test d slot m w word a_is x_is here = tests p f slot w W32 test R0 (FromReg R3) m.a m.x d here a_is (x_is refl)

  -- a test that leads k instructions on where it holds, and j where it doesn't
  abbrev Leads : Annotated → List Annotated → ℕ → ℕ → Machine → Now → ℕ → ℕ → Type 0
  Leads a rest fuel v m w k j = (leads_to a (slice_get rest k) ≡ true) × (leads_to a (slice_get rest j) ≡ true) × Behind l p g f wanted a m w × Onward l p g f wanted a rest fuel v

  abbrev Runs : List Annotated → ℕ → ℕ → Machine → Bool → ℕ → ℕ → Type 0
  Runs rest fuel v m t k j = run_from f.back fuel g (drop (cond t k j) (insns rest)) m ≡ Some v

  -- the test jumps where it holds, and a jump stands behind it, or nothing
  taken : (a : Annotated) (rest : List Annotated) (source : Source) (test : Cond) (slot fuel v k j : ℕ) (m : Machine) (w : Now) → IsWord source → w.r0 ≡ Some (Number m.a) → (is_register source ≡ true → w.r3 ≡ Some (Number m.x))
      → HasAt p slot ((JumpIfInsn test W32 R0 (operand_of source) (pos (ahead_in l rest k + length (jump_code j 0))) ∷ jump_code j (ahead_in l rest j)) ++ code l rest)
      → Leads a rest fuel v m w k j → Runs rest fuel v m (jumps W32 test m.a (operand source m)) k j → Ends p f.spare (at f slot w) v
  taken a rest source test slot fuel v k j m w word a_is x_is has leads run =
      let t : Bool = jumps W32 test m.a (operand source m) in
      let d : ℕ = ahead_in l rest k + length (jump_code j 0) in
      let long = alike_jump j (ahead_in l rest j) 0 in
      either p (at f slot w) t (at f (slot + 1 + d) w) (at f (slot + 1) w) v (test_moves source test d slot m w word a_is x_is has.0)
      (λ e.
      let behind = has_back p (slot + 1) (jump_code j (ahead_in l rest j)) (code l rest) has.1 in
      let there : slot + 1 + length (jump_code j (ahead_in l rest j)) + ahead_in l rest k ≡ slot + 1 + d = omega (arith, long) in
      subst (λ n. Ends p f.spare (at f n w) v) there (leads.3 (slot + 1 + length (jump_code j (ahead_in l rest j))) k m w behind leads.0 leads.2 (ap (λ t. run_from f.back fuel g (drop (cond t k j) (insns rest)) m) (sym e) ∙ run)))
      (λ e. lands a rest (slot + 1) fuel v j m w has.1 leads.3 leads.1 leads.2 (ap (λ t. run_from f.back fuel g (drop (cond t k j) (insns rest)) m) (sym e) ∙ run))

  -- the opposite test jumps where the test fails, and the next instruction follows
  unless : (a : Annotated) (rest : List Annotated) (source : Source) (test other : Cond) (slot fuel v j : ℕ) (m : Machine) (w : Now) → Opposes other test → IsWord source → w.r0 ≡ Some (Number m.a) → (is_register source ≡ true → w.r3 ≡ Some (Number m.x))
      → HasAt p slot (JumpIfInsn other W32 R0 (operand_of source) (pos (ahead_in l rest j)) ∷ code l rest)
      → Leads a rest fuel v m w 0 j → Runs rest fuel v m (jumps W32 test m.a (operand source m)) 0 j → Ends p f.spare (at f slot w) v
  unless a rest source test other slot fuel v j m w opposes word a_is x_is has leads run =
      let t : Bool = jumps W32 test m.a (operand source m) in
      let o : Bool = jumps W32 other m.a (operand source m) in
      let d : ℕ = ahead_in l rest j in
      let same : not o ≡ t = ap not (opposes m.a (operand source m)) ∙ twice t in
      either p (at f slot w) o (at f (slot + 1 + d) w) (at f (slot + 1) w) v (test_moves source other d slot m w word a_is x_is has.0)
      (λ e. leads.3 (slot + 1) j m w has.1 leads.1 leads.2 (ap (λ t. run_from f.back fuel g (drop (cond t 0 j) (insns rest)) m) (ap not (sym e) ∙ same) ∙ run))
      (λ e. straight l p g f wanted a rest (slot + 1) fuel v m w leads.3 has.1 leads.0 leads.2 (ap (λ t. run_from f.back fuel g (drop (cond t 0 j) (insns rest)) m) (ap not (sym e) ∙ same) ∙ run))

  -- no test opposes `Set`: it passes over a jump
  unless_set : (a : Annotated) (rest : List Annotated) (source : Source) (slot fuel v j : ℕ) (m : Machine) (w : Now) → IsWord source → w.r0 ≡ Some (Number m.a) → (is_register source ≡ true → w.r3 ≡ Some (Number m.x))
      → HasAt p slot (JumpIfInsn IsSet W32 R0 (operand_of source) (pos 1) ∷ Ja (pos (ahead_in l rest j)) ∷ code l rest)
      → Leads a rest fuel v m w 0 j → Runs rest fuel v m (jumps W32 IsSet m.a (operand source m)) 0 j → Ends p f.spare (at f slot w) v
  unless_set a rest source slot fuel v j m w word a_is x_is has leads run =
      let t : Bool = jumps W32 IsSet m.a (operand source m) in
      let d : ℕ = ahead_in l rest j in
      either p (at f slot w) t (at f (slot + 1 + 1) w) (at f (slot + 1) w) v (test_moves source IsSet 1 slot m w word a_is x_is has.0)
      (λ e. straight l p g f wanted a rest (slot + 1 + 1) fuel v m w leads.3 has.1.1 leads.0 leads.2 (ap (λ t. run_from f.back fuel g (drop (cond t 0 j) (insns rest)) m) (sym e) ∙ run))
      (λ e. after p (at f (slot + 1) w) (at f (slot + 1 + 1 + d) w) v (goes p f (slot + 1) w d has.1.0)
      (leads.3 (slot + 1 + 1) j m w has.1.1 leads.1 leads.2 (ap (λ t. run_from f.back fuel g (drop (cond t 0 j) (insns rest)) m) (sym e) ∙ run)))

  unless_of : (test : Test) (a : Annotated) (rest : List Annotated) (source : Source) (slot fuel v j : ℕ) (m : Machine) (w : Now) → IsWord source → w.r0 ≡ Some (Number m.a) → (is_register source ≡ true → w.r3 ≡ Some (Number m.x))
      → HasAt p slot (unless_code (inverse test) source (ahead_in l rest j) ++ code l rest)
      → Leads a rest fuel v m w 0 j → Runs rest fuel v m (jumps W32 (same_test test) m.a (operand source m)) 0 j → Ends p f.spare (at f slot w) v
  unless_of Eq a rest source slot fuel v j m w word a_is x_is has leads run = unless a rest source IsEq IsNe slot fuel v j m w (λ a b. refl) word a_is x_is has leads run
  unless_of Gt a rest source slot fuel v j m w word a_is x_is has leads run = unless a rest source IsGt IsLe slot fuel v j m w (λ a b. not_above (low W32 a) (low W32 b)) word a_is x_is has leads run
  unless_of Ge a rest source slot fuel v j m w word a_is x_is has leads run = unless a rest source IsGe IsLt slot fuel v j m w (λ a b. not_from (low W32 a) (low W32 b)) word a_is x_is has leads run
  unless_of Set a rest source slot fuel v j m w word a_is x_is has leads run = unless_set a rest source slot fuel v j m w word a_is x_is has leads run

  -- both ways are the same one
  no_matter : (t : Bool) (k j : ℕ) → (k == j) ≡ true → cond t k j ≡ k
  no_matter true k j e = refl
  no_matter false k j e = sym (eqb-true k j e)

  pub jump_if : (test : Test) (source : Source) (jt jf : ℕ) → Follows l p g f wanted (JumpIf test source jt jf)
  unfolding next
  jump_if test source jt jf known sa sx over rest slot fuel v m w good has agree covers knows onward run =
      let a : Annotated = marked (JumpIf test source jt jf) known sa sx over in
      let both = and_parts (leads_to a (slice_get rest jt)) (leads_to a (slice_get rest jf)) (or_right _ _ (none_below (room l)) agree.leads) in
      let more = knows.there in
      let behind : Behind l p g f wanted a m w = same_knows l p g f wanted known (max known 0) sa sx m w (omega (arith, clamps)) knows in
      let leads : Leads a rest fuel v m w jt jf = (both.0, both.1, behind, onward) in
      let t : Bool = jumps W32 (same_test test) m.a (operand source m) in
      let one : List Insn = jump_code jt (ahead_in l rest jt) in
      let less : List Insn = unless_code (inverse test) source (ahead_in l rest jf) in
      let full : List Insn = JumpIfInsn (same_test test) W32 R0 (operand_of source) (pos (ahead_in l rest jt + length (jump_code jf 0))) ∷ jump_code jf (ahead_in l rest jf) in
      let a_is : (jt == jf) ≡ false → w.r0 ≡ Some (Number m.a) = λ e. knows.a_is (implied (not (jt == jf)) sa agree.a_read (ap not e)) in
      let x_is : (jt == jf) ≡ false → is_register source ≡ true → w.r3 ≡ Some (Number m.x) = λ e r. knows.x_is (implied (is_register source && not (jt == jf)) sx agree.x_read (ap₂ (λ r b. r && not b) r e)) in
      let by_zero : (b : Bool) → (jt == 0) ≡ b → (jt == jf) ≡ false → HasAt p slot (cond b less full ++ code l rest) → Ends p f.spare (at f slot w) v =
      λ b. elim b as (λ b. (jt == 0) ≡ b → (jt == jf) ≡ false → HasAt p slot (cond b less full ++ code l rest) → Ends p f.spare (at f slot w) v) [
        | true ↦ (λ z ne h.
            let none : jt ≡ 0 = eqb-true jt 0 z in
            unless_of test a rest source slot fuel v jf m w (word_of source good.word) (a_is ne) (x_is ne) h
            (subst (λ n. leads_to a (slice_get rest n) ≡ true) none both.0, both.1, behind, onward)
            (subst (λ n. Runs rest fuel v m t n jf) none run))
        | false ↦ (λ z ne h. taken a rest source (same_test test) slot fuel v jt jf m w (word_of source good.word) (a_is ne) (x_is ne) h leads run)
      ] in
      let by_same : (b : Bool) → (jt == jf) ≡ b → HasAt p slot (cond b one (cond (jt == 0) less full) ++ code l rest) → Ends p f.spare (at f slot w) v =
      λ b. elim b as (λ b. (jt == jf) ≡ b → HasAt p slot (cond b one (cond (jt == 0) less full) ++ code l rest) → Ends p f.spare (at f slot w) v) [
        | true ↦ (λ e h. lands a rest slot fuel v jt m w h onward both.0 behind (ap (λ k. run_from f.back fuel g (drop k (insns rest)) m) (sym (no_matter t jt jf e)) ∙ run))
        | false ↦ (λ e h. by_zero (jt == 0) refl e h)
      ] in
      by_same (jt == jf) refl has
