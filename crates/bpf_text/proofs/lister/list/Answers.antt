use Rattle.std.proofs.Common.{◌≡◌, ℕ, ◌+◌, ◌<◌, ◌++◌, List, [], Option, Some, None, get_or, length, take, flat_map, ap, sym, ◌∙◌, subst, arith}
use Rattle.std.proofs.Math.Seq.{take-length}
use Rattle.std.specs.Option.{option_copied}
use Rattle.bpf_insn.specs.Written.{AppendsBeginning, Gathers}
use Rattle.bpf_insn.specs.Instruction.{layout}
use Rattle.bpf_insn.specs.declared.instruction.Insn.{Insn}
use Rattle.bpf_insn.proofs.WriteLemmas.{gathers_nothing, gathered_all, gathered_some, on_err, on_ok_map, on_err_map}
use Rattle.bpf_text.specs.Listing.{listing}
use Rattle.bpf_text.proofs.WriteLemmas.{put_more, began_more}
use Rattle.bpf_text.proofs.ListingLemmas.{cell_text, listing_by_slot}
use Rattle.bpf_text.proofs.lister.list.Goals as goal
use Rattle.bpf_text.proofs.lister.list.Goals.{in-Some+in_ok-put_line, in_default}

began : (a b c : Option (List ℕ)) (q : List ℕ) (is : List Insn) (slot : ℕ) (i : Insn) → slot < length (layout is) → Some i ≡ get_or (layout is) slot None
    → Gathers a b [] q (flat_map cell_text (take slot (layout is))) → AppendsBeginning b c (q ++ cell_text (Some i)) → AppendsBeginning a c (listing is)
began a b c q is slot i inside at h k =
    let P : Option Insn → Type 0 = λ cell. AppendsBeginning b c (q ++ cell_text cell) in
    subst (AppendsBeginning a c) (listing_by_slot is) (began_more a b c [] q cell_text (layout is) slot None inside h (subst P at k))

put_here : (a b c : Option (List ℕ)) (q r : List ℕ) (is : List Insn) (slot : ℕ) (cell : Option Insn) → slot < length (layout is) → cell ≡ get_or (layout is) slot None
    → Gathers a b [] q (flat_map cell_text (take slot (layout is))) → Gathers b c q r (cell_text cell) → Gathers a c [] r (flat_map cell_text (take (slot + 1) (layout is)))
put_here a b c q r is slot cell inside at h k = put_more a b c [] q r cell_text (layout is) slot None inside h (subst (λ x. Gathers b c q r (cell_text x)) at k)

all : (is : List Insn) (slot : ℕ) → slot ≡ length (layout is) → flat_map cell_text (take slot (layout is)) ≡ listing is
all is slot e = ap (λ n. flat_map cell_text (take n (layout is))) e ∙ ap (flat_map cell_text) (take-length (layout is)) ∙ listing_by_slot is

pub loop-slot-init : goal.loop-slot-init
loop-slot-init g c = subst (λ p. Gathers (g.W.Write.contents c.args.out.now) (g.W.Write.contents c.args.out.now) [] p []) (sym c.new-pending.ensures) (gathers_nothing _ [])

pub returns-in_err-put_line-clause-err : goal.returns-in_err-put_line-clause-err
returns-in_err-put_line-clause-err g c = on_err c.from_residual.result (began _ _ _ c.loop-slot.pending c.args.program.now.list c.loop-slot.slot c.in-Some.insn.now (omega arith) c.in-Some.ensures c.loop-slot.invariant c.in_err-put_line.ensures.err)

pub loop-slot-preserved : goal.loop-slot-preserved
loop-slot-preserved g c =
    let is = c.args.program.now.list in
    let slot = c.loop-slot.slot in
    let inside : slot < length (layout is) = omega arith in
    let P : g.row.W.Denot → List ℕ → Type 0 = λ out p. Gathers (g.W.Write.contents c.args.out.now) (g.W.Write.contents out) [] p (flat_map cell_text (take (slot + 1) (layout is))) in
    let grown : P c.match-at.out c.match-at.pending = elim c.match-at.branch [
      | in-Some+in_ok-put_line w ↦
          subst (λ out. P out c.match-at.pending) (sym w.out-is) (subst (P w.put_line.new.out) (sym w.pending-is)
          (put_here _ _ _ c.loop-slot.pending w.put_line.new.pending is slot (Some w.in-Some.insn.now) inside w.in-Some.ensures c.loop-slot.invariant w.in_ok-put_line.ensures.ok))
      | in_default w ↦
          subst (λ out. P out c.match-at.pending) (sym w.out-is) (subst (P c.loop-slot.out) (sym w.pending-is)
          (put_here _ _ _ c.loop-slot.pending c.loop-slot.pending is slot None inside (sym (ap option_copied w.in_default.is) ∙ c.at.ensures) c.loop-slot.invariant (gathers_nothing _ c.loop-slot.pending)))
    ] in
    grown

pub returns-clause-ok : goal.returns-clause-ok
returns-clause-ok g c = on_ok_map c.flush.result (gathered_all _ _ _ c.loop-slot.pending (listing c.args.program.now.list)
    (subst (Gathers (g.W.Write.contents c.args.out.now) (g.W.Write.contents c.loop-slot.out) [] c.loop-slot.pending) (all c.args.program.now.list c.loop-slot.slot (omega arith)) c.loop-slot.invariant)) c.flush.ensures.ok

pub returns-clause-err : goal.returns-clause-err
returns-clause-err g c = on_err_map c.flush.result (gathered_some _ _ _ c.loop-slot.pending (listing c.args.program.now.list)
    (subst (Gathers (g.W.Write.contents c.args.out.now) (g.W.Write.contents c.loop-slot.out) [] c.loop-slot.pending) (all c.args.program.now.list c.loop-slot.slot (omega arith)) c.loop-slot.invariant)) c.flush.ensures.err
