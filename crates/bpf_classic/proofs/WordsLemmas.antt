-- What the templates of Linux's auxiliary data do.
use Rattle.std.proofs.Common.{◌≡◌, ℕ, ◌+◌, ◌<◌, ◌≤◌, ◌^◌, List, [], take, drop, Bool, refl, sym, ap, ap₂, ◌∙◌, subst, arith}
use Rattle.std.specs.Prelude.{pos, ◌+ℤ◌, max, slice_index}
use Rattle.std.proofs.lemmas.Int.{clamps}
use Rattle.std.proofs.Math.Seq.{drop-nil}
use Rattle.bpf_insn.specs.Order.{number_of}
use Rattle.bpf_insn.specs.Instruction.{Instructions}
use Rattle.bpf_insn.specs.declared.order.Order.{Order}
use Rattle.bpf_insn.specs.declared.order.Order.TheVariants.{Little, Big}
use Rattle.bpf_insn.specs.declared.instruction.Reg.TheVariants.{R1}
use Rattle.bpf_insn.specs.declared.instruction.Operand.TheVariants.{Imm}
use Rattle.bpf_insn.specs.declared.instruction.Width.TheVariants.{W32}
use Rattle.bpf_insn.specs.declared.instruction.AluOp.TheVariants.{Mov}
use Rattle.bpf_semantics.specs.declared.value.Value.TheVariants.{Number}
use Rattle.bpf_classic.specs.Auxiliary.{offset_of}
use Rattle.bpf_classic.specs.Machine.{Given, put, word_at, next}
use Rattle.bpf_classic.specs.declared.instruction.Register.TheVariants.{A}
use Rattle.bpf_classic.specs.declared.instruction.LoadSize.TheVariants.{Word}
use Rattle.bpf_classic.specs.declared.instruction.Auxiliary.{Auxiliary}
use Rattle.bpf_classic.specs.declared.instruction.Auxiliary.TheVariants.{Protocol, PacketType, Interface, Mark, Queue, HardwareType, Hash, Processor, VlanTag, HasVlanTag, Random, VlanProtocol}
use Rattle.bpf_classic.specs.declared.instruction.Classic.TheVariants.{Extension}
use Rattle.bpf_classic.specs.Template.{room, word_insn}
use Rattle.bpf_classic.specs.declared.layout.Form.{Form}
use Rattle.bpf_classic.specs.declared.layout.Form.TheVariants.{Blocks, Plain, Seccomp, Extended}
use Rattle.bpf_classic.specs.declared.layout.Layout.{Layout}
use Rattle.bpf_classic.proofs.Steps.{Stands, Moves}
use Rattle.bpf_classic.proofs.Machine.{Fixed, Now, at, set_to, alu_moves, context_moves}
use Rattle.bpf_classic.proofs.Known.{WordsAre, Fits, or_right, none_below, marked, Follows, pass, put_knows}
use Rattle.bpf_classic.proofs.Loading.{part_bytes, number_small}

offset_low : (word : Auxiliary) → offset_of word ≤ 60
offset_low Protocol = omega arith
offset_low PacketType = omega arith
offset_low Interface = omega arith
offset_low Mark = omega arith
offset_low Queue = omega arith
offset_low HardwareType = omega arith
offset_low Hash = omega arith
offset_low Processor = omega arith
offset_low VlanTag = omega arith
offset_low HasVlanTag = omega arith
offset_low Random = omega arith
offset_low VlanProtocol = omega arith

-- where there are no words, each of them is 0
no_number : (order : Order) → ◌≡◌ {A = ℕ} (number_of order 4 []) 0
no_number Little = refl
no_number Big = refl

no_word : (order : Order) (k : ℕ) (words : List ℕ) → words ≡ [] → ◌≡◌ {A = ℕ} (number_of order 4 (take 4 (drop k words))) 0
no_word order k words e = ap (λ xs. number_of order 4 (take 4 (drop k xs))) e ∙ ap (λ xs. number_of order 4 (take 4 xs)) (drop-nil {A = ℕ} k) ∙ no_number order

module _ (l : Layout) (p : Instructions) (g : Given) (f : Fixed) (wanted : ℕ → Bool) where
  -- A is set to what the move gives
  moves_to : (slot n m : ℕ) (w : Now) → n ≡ m → Moves p (at f slot w) (at f (slot + 1) (set_to A (Number n) w)) → Moves p (at f slot w) (at f (slot + 1) (set_to A (Number m) w))
  moves_to slot n m w e moves = subst (λ n. Moves p (at f slot w) (at f (slot + 1) (set_to A (Number n) w))) e moves

  zero_moves : (slot k : ℕ) (w : Now) → g.words ≡ [] → Stands p slot (word_insn Blocks k) → Moves p (at f slot w) (at f (slot + 1) (set_to A (Number (word_at g k)) w))
  zero_moves slot k w none here = moves_to slot 0 (word_at g k) w (sym (no_word g.own k g.words none)) (alu_moves p f slot w A W32 Mov (Imm (pos 0)) (Number 0) (Number 0) here refl refl)

  word_moves : (form : Form) (slot k : ℕ) (w : Now) → k ≤ 60 → g.own ≡ p.order → WordsAre form f g.words → Stands p slot (word_insn form k) → Moves p (at f slot w) (at f (slot + 1) (set_to A (Number (word_at g k)) w))
  word_moves Blocks slot k w low own words here = zero_moves slot k w words here
  word_moves Plain slot k w low own words here = zero_moves slot k w words here
  word_moves Seccomp slot k w low own words here = zero_moves slot k w words here
  word_moves Extended slot k w low own words here =
      let there = words k low in
      let e : pos 0 +ℤ pos (8 + k) ≡ pos (8 + k) = (let n : 0 + (8 + k) ≡ 8 + k = omega arith in ap pos n) in
      moves_to slot (number_of p.order 4 (take 4 (drop (8 + k) f.context))) (word_at g k) w (ap₂ (λ o xs. number_of o 4 xs) (sym own) there.1)
      (context_moves p f slot w A Word R1 (pos (8 + k)) 0 (8 + k) here refl e there.0)

  zero_small : (k : ℕ) → g.words ≡ [] → word_at g k < 2 ^ 32
  zero_small k none = let e = no_word g.own k g.words none in omega (arith, e)

  word_small : (form : Form) (k : ℕ) → k ≤ 60 → ((i : ℕ) → slice_index f.context i < 256) → WordsAre form f g.words → word_at g k < 2 ^ 32
  word_small Blocks k low bytes words = zero_small k words
  word_small Plain k low bytes words = zero_small k words
  word_small Seccomp k low bytes words = zero_small k words
  word_small Extended k low bytes words =
      let there = words k low in
      let small = number_small g.own Word (take 4 (drop (8 + k) f.context)) (part_bytes f.context bytes (8 + k) 4) in
      subst (λ xs. number_of g.own 4 xs < 2 ^ 32) there.1 small

  pub extension : Fits l p g f → (word : Auxiliary) → Follows l p g f wanted (Extension word)
  unfolding next
  extension fits word known sa sx over rest slot fuel v m w good has agree covers knows onward run =
      let more = knows.there in
      let k : ℕ = offset_of word in
      let low = offset_low word in
      let n : ℕ = word_at g k in
      pass l p g f wanted (marked (Extension word) known sa sx over) rest slot fuel v (put A n m) w (set_to A (Number n) w)
      (word_moves l.form slot k w low fits.own fits.words has.0)
      has.1 onward (or_right _ _ (none_below (room l)) agree.leads)
      (put_knows l p g f wanted A n known (max known 0) sa sx m w (word_small l.form k low fits.bytes fits.words) (omega (arith, clamps)) knows) run
