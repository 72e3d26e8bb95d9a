use Rattle.std.proofs.Common.{◌≡◌, refl, inl, rules}
use Rattle.bpf_insn.specs.declared.refusal.DecodeError.TheVariants.{Memory}
use Rattle.bpf_answers.specs.Loaded.{ImageRefused, LoadsImage, NoSpaceFor}
use Rattle.bpf_answers.specs.declared.answer.Answer.TheVariants.{NoImage}
use Rattle.bpf_command.specs.Printed.{ImageSays}
use Rattle.bpf_command.specs.Explained.{TaskSays}
use Rattle.bpf_answers.proofs.LoadedLemmas.{decoded, read_of}
use Rattle.bpf_command.proofs.ExplainedLemmas.{answered_so, printed_so, made_so}
use Rattle.bpf_command.proofs.commands.explain.explained_made.Goals as goal

pub returns-in-Err-clause-ok : goal.returns-in-Err-clause-ok
returns-in-Err-clause-ok g c =
    let at = g.P.Places.opens in
    let none : NoSpaceFor at c.args.places.now c.args.input.now c.image_at.new.places c.in-Err.error = rw c.in-Err.is at c.in_ok-bytes.ensures.ok in
    printed_so c.print.result (NoImage c.in-Err.error) _ _ (ImageSays at c.args.order c.args.places.now c.args.input.now c.image_at.new.places (TaskSays c.args.task)) (inl none) c.print.ensures.ok

pub returns-in-Ok-decode-clause-ok : goal.returns-in-Ok-decode-clause-ok
returns-in-Ok-decode-clause-ok g c =
    let at = g.P.Places.opens in
    let same : c.in-Ok.bytes.items ≡ c.deref.result.now = search rules in
    let read = read_of at (λ v. v.items) c.args.places.now c.args.input.now c.image_at.new.places c.in_ok-bytes.field-0 c.in-Ok.bytes c.deref.result.now c.in-Ok.is same c.in_ok-bytes.ensures.ok in
    let image : LoadsImage at c.args.order c.args.places.now c.args.input.now c.image_at.new.places c.in-Ok-decode.program
    = record { bytes = c.deref.result.now; read = read; is_image = record { program = c.in-Ok-decode.ensures.program; bytes_are = c.in-Ok-decode.ensures.ok.0.bytes_are }; order_is = c.in-Ok-decode.ensures.ok.1 } in
    made_so c.say_made.result at c.args.order c.args.places.now c.args.input.now c.image_at.new.places c.args.task c.in-Ok-decode.program image c.say_made.ensures.ok

pub returns-in-Err-Memory-clause-ok : goal.returns-in-Err-Memory-clause-ok
returns-in-Err-Memory-clause-ok g c =
    let at = g.P.Places.opens in
    let same : c.in-Ok.bytes.items ≡ c.deref.result.now = search rules in
    let read = read_of at (λ v. v.items) c.args.places.now c.args.input.now c.image_at.new.places c.in_ok-bytes.field-0 c.in-Ok.bytes c.deref.result.now c.in-Ok.is same c.in_ok-bytes.ensures.ok in
    printed_so c.print-in-Err-Memory.result (NoImage Memory) _ _ (ImageSays at c.args.order c.args.places.now c.args.input.now c.image_at.new.places (TaskSays c.args.task)) (inl ((read.known, read.opened), refl)) c.print-in-Err-Memory.ensures.ok

pub returns : goal.returns
returns g c =
    let at = g.P.Places.opens in
    let same : c.in-Ok.bytes.items ≡ c.deref.result.now = search rules in
    let read = read_of at (λ v. v.items) c.args.places.now c.args.input.now c.image_at.new.places c.in_ok-bytes.field-0 c.in-Ok.bytes c.deref.result.now c.in-Ok.is same c.in_ok-bytes.ensures.ok in
    let said = decoded at c.args.order c.args.places.now c.args.input.now c.deref.result.now c.image_at.new.places c.decode.result read c.decode.ensures.ok c.decode.ensures.program c.decode.ensures.err in
    let refused : ImageRefused at c.args.order c.args.places.now c.args.input.now c.image_at.new.places c.in-Err-decode.error = rw c.in-Err-decode.is at said in
    record {
      ok = answered_so c.refused_image.result 1 (NoImage c.in-Err-decode.error) (ImageSays at c.args.order c.args.places.now c.args.input.now c.image_at.new.places (TaskSays c.args.task)) refl refused c.refused_image.ensures.ok;
      err = search rules;
      opened = search rules;
    }
