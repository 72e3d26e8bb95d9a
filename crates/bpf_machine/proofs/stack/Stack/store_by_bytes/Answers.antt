use Rattle.std.proofs.Common.{◌∙◌, ap, sym, arith, ◌∷◌, [], ◌+◌, ℕ, List, length, ◌≡◌, ◌<◌, ◌≤◌, get_or}
use Rattle.std.proofs.lemmas.List.{take_all, get_or_append_left}
use Rattle.bpf_insn.specs.Order.{bytes_of}
use Rattle.bpf_insn.specs.Instruction.{byte_count}
use Rattle.bpf_semantics.specs.Memory.{with_bytes}
use Rattle.bpf_insn.proofs.ByteLemmas.{bytes_long}
use Rattle.bpf_machine.proofs.ByteLemmas.{some_bytes}
use Rattle.bpf_machine.proofs.StackLemmas.{bytes_more, take_one}
use Rattle.bpf_machine.proofs.stack.Stack.store_by_bytes.Goals as goal

pub loop-i-init : goal.loop-i-init
loop-i-init c =
    let k : ℕ = byte_count c.args.size in
    let bs : List ℕ = bytes_of c.args.order k c.args.x in
    let n : length bs ≡ k = bytes_long c.args.order k c.args.x in
    let some : 0 < length bs = omega (arith, n, some_bytes c.args.size) in
    let first : get_or c.put_number.new.bytes 0 0 ≡ get_or bs 0 0 = ap (λ l. get_or l 0 0) c.put_number.ensures ∙ get_or_append_left bs _ 0 0 some in
    c.store_byte.ensures
    ∙ ap (λ b. with_bytes (b ∷ []) c.args.at c.args.self.now) first
    ∙ ap (λ bs. with_bytes bs c.args.at c.args.self.now) (sym (take_one bs some))

pub loop-i-preserved : goal.loop-i-preserved
loop-i-preserved c =
    let k : ℕ = byte_count c.args.size in
    let bs : List ℕ = bytes_of c.args.order k c.args.x in
    let n : length bs ≡ k = bytes_long c.args.order k c.args.x in
    let few : c.loop-i.i < length bs = omega (arith, n) in
    let some : 0 < c.loop-i.i = omega arith in
    let byte : get_or c.put_number.new.bytes c.loop-i.i 0 ≡ get_or bs c.loop-i.i 0 = ap (λ l. get_or l c.loop-i.i 0) c.put_number.ensures ∙ get_or_append_left bs _ 0 c.loop-i.i few in
    c.store_byte-in-loop-i.ensures
    ∙ ap (λ b. with_bytes (b ∷ []) (c.args.at + c.loop-i.i) c.loop-i.self) byte
    ∙ ap (with_bytes (get_or bs c.loop-i.i 0 ∷ []) (c.args.at + c.loop-i.i)) c.loop-i.invariant
    ∙ bytes_more bs c.loop-i.i c.args.at c.args.self.now some few

pub returns : goal.returns
returns c =
    let k : ℕ = byte_count c.args.size in
    let bs : List ℕ = bytes_of c.args.order k c.args.x in
    let n : length bs ≡ k = bytes_long c.args.order k c.args.x in
    let all : length bs ≤ c.loop-i.i = omega (arith, n) in
    c.loop-i.invariant ∙ ap (λ bs. with_bytes bs c.args.at c.args.self.now) (take_all c.loop-i.i bs all)
