-- A converted filter answers what the filter does: forward along the filter's run, an instruction at a time.
use Rattle.std.proofs.Common.{◌≡◌, ℕ, zero, suc, ◌+◌, List, [], ◌∷◌, length, drop, Bool, true, Option, Some, None, refl, sym, ap, ◌∙◌, subst, arith}
use Rattle.std.specs.Prelude.{slice_get, ◌&&◌}
use Rattle.std.proofs.lemmas.Bool.{false≢true, and_parts, or_left, or_right}
use Rattle.std.proofs.lemmas.Option.{none-some}
use Rattle.std.proofs.lemmas.List.{drop-map, length-map}
use Rattle.bpf_insn.specs.Instruction.{Instructions}
use Rattle.bpf_classic.specs.Machine.{Given, Machine, next, go_on, run_from}
use Rattle.bpf_classic.specs.declared.instruction.Source.TheVariants.{K, X as FromX}
use Rattle.bpf_classic.specs.declared.instruction.Classic.{Classic}
use Rattle.bpf_classic.specs.declared.instruction.Classic.TheVariants.{Constant, Length, Cell, Store, At, Index, Header, Extension, Alu, Neg, Jump, Back, JumpIf, Return, ReturnA, Tax, Txa}
use Rattle.bpf_classic.specs.Template.{ahead_in, loads, is_loaded, total, code}
use Rattle.bpf_classic.specs.Flow.{leads_to, agrees, all_agree, turns_well, all_turn}
use Rattle.bpf_classic.specs.Meaning.{insns}
use Rattle.bpf_classic.specs.declared.layout.Layout.{Layout}
use Rattle.bpf_classic.specs.declared.layout.Annotated.{Annotated}
use Rattle.bpf_classic.proofs.Steps.{HasAt, Ends}
use Rattle.bpf_classic.proofs.Places.{code_at}
use Rattle.bpf_classic.proofs.Machine.{Fixed, Now, at}
use Rattle.bpf_classic.proofs.Known.{Fits, Sane, Good, Covers, Agreed, agreed, all_drop, found, implied, marked, Turns, Holds, Onward, Follows}
use Rattle.bpf_classic.proofs.Plain as plain
use Rattle.bpf_classic.proofs.Operations as operations
use Rattle.bpf_classic.proofs.Jumps as jumps
use Rattle.bpf_classic.proofs.Loading as loading
use Rattle.bpf_classic.proofs.WordsLemmas as words
use Rattle.bpf_classic.proofs.Turning as turning

abbrev pub insn_of : Annotated → Classic
insn_of a = a.insn

abbrev pub AreGood : List Annotated → Type 0
AreGood [] = Unit {0}
AreGood (a ∷ rest) = Sane a.insn × AreGood rest

pub good_drop : (k : ℕ) (rest : List Annotated) → AreGood rest → AreGood (drop k rest)
good_drop zero rest h = h
good_drop (suc k) [] h = tt
good_drop (suc k) (a ∷ rest) h = good_drop k rest h.1

-- the cells that are loaded are among the wanted ones
abbrev pub Wants : (ℕ → Bool) → List Annotated → Type 0
Wants wanted list = (cell : ℕ) → is_loaded list cell ≡ true → wanted cell ≡ true

pub wants_drop : (wanted : ℕ → Bool) (k : ℕ) (rest : List Annotated) → Wants wanted rest → Wants wanted (drop k rest)
wants_drop wanted zero rest h = h
wants_drop wanted (suc k) [] h = λ cell e. absurd (false≢true e)
wants_drop wanted (suc k) (a ∷ rest) h = wants_drop wanted k rest (λ cell e. h cell (or_right (a.reached && loads cell a.insn) (is_loaded rest cell) e))

pub turn_drop : (l : Layout) (all : List Annotated) (k : ℕ) (rest : List Annotated) → all_turn l all rest ≡ true → all_turn l all (drop k rest) ≡ true
turn_drop l all zero rest e = e
turn_drop l all (suc k) [] e = refl
turn_drop l all (suc k) (a ∷ rest) e = turn_drop l all k rest (and_parts _ _ e).1

module _ (l : Layout) (p : Instructions) (g : Given) (f : Fixed) (wanted : ℕ → Bool) (fits : Fits l p g f) (all : List Annotated) (start : ℕ) (turns : l.loops ≡ true → Turns l p g f wanted all start) where
  -- the same where a jump back is known to lead where it says
  abbrev Goes : Classic → Type 0
  Goes i =
      (known : ℕ) (sa sx : Bool) (over : ℕ) (rest : List Annotated) (slot fuel v : ℕ) (m : Machine) (w : Now)
      → turns_well l all (marked i known sa sx over) i (length rest) (total l rest) ≡ true
      → Good i → HasAt p slot (code l (marked i known sa sx over ∷ rest)) → Agreed l (marked i known sa sx over) rest → Covers wanted i → Holds l p g f wanted sa sx known m w
      → Onward l p g f wanted (marked i known sa sx over) rest fuel v
      → go_on (next g i m) (λ k m'. run_from f.back fuel g (drop k (insns rest)) m') (λ k m'. f.back (length (insns rest) + k) m') ≡ Some v → Ends p f.spare (at f slot w) v

  anyway : (i : Classic) → Follows l p g f wanted i → Goes i
  anyway i h known sa sx over rest slot fuel v m w well = h known sa sx over rest slot fuel v m w

  goes_back : (k : ℕ) → Goes (Back k)
  unfolding next
  goes_back k known sa sx over rest slot fuel v m w well good has agree covers knows onward run =
      let long : length (insns rest) ≡ length rest = length-map rest insn_of in
      turning.back l p g f wanted all start k known sa sx over rest slot v m w turns has agree well knows (subst (λ n. f.back (n + k) m ≡ Some v) long run)

  follows : (i : Classic) → Goes i
  follows (Constant to k) = anyway (Constant to k) (plain.constant l p g f wanted to k)
  follows (Length to) = anyway (Length to) (plain.length_of l p g f wanted fits to)
  follows (Cell to i) = anyway (Cell to i) (plain.cell l p g f wanted to i)
  follows (Store from i) = anyway (Store from i) (plain.store l p g f wanted from i)
  follows (At size k) = anyway (At size k) (loading.at_offset l p g f wanted fits size k)
  follows (Index size k) = anyway (Index size k) (loading.index l p g f wanted fits size k)
  follows (Header k) = anyway (Header k) (loading.header l p g f wanted fits k)
  follows (Extension word) = anyway (Extension word) (words.extension l p g f wanted fits word)
  follows (Alu op (K k)) = anyway (Alu op (K k)) (operations.with_constant l p g f wanted op k)
  follows (Alu op FromX) = anyway (Alu op FromX) (operations.with_x l p g f wanted fits op)
  follows Neg = anyway Neg (plain.neg l p g f wanted)
  follows (Jump k) = anyway (Jump k) (jumps.jump l p g f wanted k)
  follows (Back k) = goes_back k
  follows (JumpIf test source jt jf) = anyway (JumpIf test source jt jf) (jumps.jump_if l p g f wanted test source jt jf)
  follows (Return k) = anyway (Return k) (plain.return_k l p g f wanted k)
  follows ReturnA = anyway ReturnA (plain.return_a l p g f wanted)
  follows Tax = anyway Tax (plain.tax l p g f wanted)
  follows Txa = anyway Txa (plain.txa l p g f wanted)

  -- from the template of an instruction on, the program's run ends with what the filter's does
  pub simulates : (fuel : ℕ) (a : Annotated) (rest : List Annotated) (slot v : ℕ) (m : Machine) (w : Now) → a.reached ≡ true → all_agree l (a ∷ rest) ≡ true → all_turn l all (a ∷ rest) ≡ true → AreGood (a ∷ rest) → Wants wanted (a ∷ rest)
      → HasAt p slot (code l (a ∷ rest)) → Holds l p g f wanted a.a a.x a.known m w → run_from f.back fuel g (insns (a ∷ rest)) m ≡ Some v → Ends p f.spare (at f slot w) v
  simulates zero a rest slot v m w reached agree turn good wants has knows run = absurd (none-some _ run)
  simulates (suc fuel) a rest slot v m w reached agree turn good wants has knows run =
      let here : Annotated = marked a.insn a.known a.a a.x a.back in
      let same : a ≡ here = ap (λ r. let b : Annotated = record { insn = a.insn; reached = r; known = a.known; a = a.a; x = a.x; back = a.back } in b) reached in
      let parts = and_parts _ _ agree in
      let turn_parts = and_parts _ _ turn in
      let well : turns_well l all here a.insn (length rest) (total l rest) ≡ true = subst (λ b. turns_well l all b a.insn (length rest) (total l rest) ≡ true) same (implied a.reached (turns_well l all a a.insn (length rest) (total l rest)) turn_parts.0 reached) in
      let agrees_here : agrees l here rest ≡ true = subst (λ b. agrees l b rest ≡ true) same (implied a.reached (agrees l a rest) parts.0 reached) in
      let covers : Covers wanted a.insn = λ cell e. wants cell (or_left (a.reached && loads cell a.insn) (is_loaded rest cell) (subst (λ r. (r && loads cell a.insn) ≡ true) (sym reached) e)) in
      let wants_rest : Wants wanted rest = λ cell e. wants cell (or_right (a.reached && loads cell a.insn) (is_loaded rest cell) e) in
      let onward : Onward l p g f wanted here rest fuel v = λ slot' k m' w' has' leads behind run'.
      let at_next : (o : Option Annotated) → slice_get rest k ≡ o → leads_to here o ≡ true → Ends p f.spare (at f (slot' + ahead_in l rest k) w') v =
      λ o. elim o as (λ o. slice_get rest k ≡ o → leads_to here o ≡ true → Ends p f.spare (at f (slot' + ahead_in l rest k) w') v) [
        | None ↦ (λ e t. absurd (false≢true t))
        | Some b ↦ (λ e t.
            let next_list : drop k rest ≡ b ∷ drop (k + 1) rest = found rest k b e in
            let known = turning.weaker l p g f wanted here b m' w' t behind in
            simulates fuel b (drop (k + 1) rest) (slot' + ahead_in l rest k) v m' w' known.0
            (subst (λ xs. all_agree l xs ≡ true) next_list (all_drop l k rest parts.1))
            (subst (λ xs. all_turn l all xs ≡ true) next_list (turn_drop l all k rest turn_parts.1))
            (subst AreGood next_list (good_drop k rest good.1))
            (subst (Wants wanted) next_list (wants_drop wanted k rest wants_rest))
            (subst (λ xs. HasAt p (slot' + ahead_in l rest k) (code l xs)) next_list (code_at l p rest k slot' has'))
            known.1
            (subst (λ xs. run_from f.back fuel g xs m' ≡ Some v) (drop-map insn_of k rest ∙ ap insns next_list) run'))
      ] in
      at_next (slice_get rest k) refl leads in
      let agreement : Agreed l here rest = agreed l here rest agrees_here in
      let sane = good.0 in
      follows a.insn a.known a.a a.x a.back rest slot fuel v m w well (record { word = agreement.word; cell = sane.cell; constant = sane.constant })
      (subst (λ b. HasAt p slot (code l (b ∷ rest))) same has) agreement covers knows onward run
