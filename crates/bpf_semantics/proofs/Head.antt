-- Where the packet stands in a block.
use Rattle.std.proofs.Common.{◌≡◌, ℕ, ◌+◌, ◌-◌, ◌≤◌, inl, inr, refl, List, ◌++◌, length, take, drop, sym, ap, ◌∙◌, length-append, arith}
use Rattle.std.specs.Prelude.{min}
use Rattle.std.proofs.lemmas.List.{length-take, length-drop, take-take, take_all, take_at, drop-take, drop-drop, drop_at}
use Rattle.std.proofs.lemmas.Bool.{cases_lt}
use Rattle.bpf_insn.specs.Order.{bytes_of, number_of}
use Rattle.bpf_insn.specs.declared.order.Order.{Order}
use Rattle.bpf_semantics.proofs.NumberLemmas.{length-bytes_of}
use Rattle.bpf_semantics.proofs.FlatBytes.{number-bytes}
use Rattle.bpf_semantics.specs.Blocks.{head_bytes, told_length, IsBlock}
use Rattle.bpf_semantics.specs.Laws.{HasHead, HeadOfBlock, BlockOfFrame}

-- the block's bytes behind the head are the packet's
pub record Holds (packet block : List ℕ) : Type 0 where
  pub long : head_bytes + length packet ≤ length block
  pub bytes : (i k : ℕ) → i + k ≤ length packet → take k (drop (head_bytes + i) block) ≡ take k (drop i packet)

module _ (order : Order) (packet block : List ℕ) (b : IsBlock order packet block) where
  abbrev behind_head : List ℕ
  behind_head = drop head_bytes block

  size : length packet ≡ min (told_length order block) (length block - head_bytes)
  size = ap length b.packet_is ∙ length-take (told_length order block) behind_head ∙ ap (min (told_length order block)) (length-drop head_bytes block)

  -- bytes of the packet are bytes behind the head
  part : (i k : ℕ) → i + k ≤ told_length order block → take k (drop i packet) ≡ take k (drop i behind_head)
  part i k within =
      let e : i + (told_length order block - i) ≡ told_length order block = omega arith in
      ap (λ packet. take k (drop i packet)) (b.packet_is ∙ ap (λ n. take n behind_head) (sym e))
      ∙ ap (take k) (drop-take i (told_length order block - i) behind_head)
      ∙ take-take k (told_length order block - i) (drop i behind_head) (omega arith)

  pub holds : Holds packet block
  holds = record {
    long = let there = b.has_head in let e = size in omega arith;
    bytes = λ i k within. let e = size in ap (take k) (sym (drop-drop i head_bytes block)) ∙ sym (part i k (omega arith));
  }

  pub has_head : HasHead order packet block
  has_head = record {
    long = holds.long;
    head = size;
    behind = let e = size in sym (part 0 (length packet) (omega arith)) ∙ take_all (length packet) packet (omega arith);
  }

pub head_of_block : HeadOfBlock
head_of_block order packet block b = has_head order packet block b

-- ---- what a host builds

-- cut twice, in either order
cut_twice : (m n : ℕ) (xs : List ℕ) → take m (take n xs) ≡ take n (take m xs)
cut_twice m n xs = elim (cases_lt m n) [
  | inl lt ↦ take-take m n xs (omega arith) ∙ sym (take_all n (take m xs) (let e = length-take m xs in omega arith))
  | inr le ↦ take_all m (take n xs) (let e = length-take n xs in omega arith) ∙ sym (take-take n m xs le)
]

pub block_of_frame : BlockOfFrame
block_of_frame order frame padding room fits =
    let head : List ℕ = bytes_of order head_bytes (length frame) in
    let rest : List ℕ = take room (frame ++ padding) in
    let eight : length head ≡ head_bytes = length-bytes_of order head_bytes (length frame) in
    let told : told_length order (head ++ rest) ≡ length frame = ap (number_of order head_bytes) (take_at head rest head_bytes eight) ∙ number-bytes order (length frame) fits in
    record {
      has_head = let e = length-append head rest in omega arith;
      packet_is = sym (
          ap (λ n. take n (drop head_bytes (head ++ rest))) told
          ∙ ap (take (length frame)) (drop_at head rest head_bytes eight)
          ∙ cut_twice (length frame) room (frame ++ padding)
          ∙ ap (take room) (take_at frame padding (length frame) refl));
    }
