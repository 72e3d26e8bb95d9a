use Rattle.std.proofs.Common.{◌≡◌, None, refl, inl, inr, rules}
use Rattle.bpf_answers.specs.Loaded.{LoadsImage, NoSpaceFor}
use Rattle.bpf_answers.specs.declared.answer.Answer.TheVariants.{NoImage, Lists}
use Rattle.bpf_command.specs.Printed.{ImageSays, ListSays}
use Rattle.bpf_answers.proofs.LoadedLemmas.{read_of}
use Rattle.bpf_command.proofs.ExplainedLemmas.{answered_so, printed_so}
use Rattle.bpf_command.proofs.commands.explain.explained_image.Goals as goal

pub returns-in-Err-clause-ok : goal.returns-in-Err-clause-ok
returns-in-Err-clause-ok g c =
    let at = g.P.Places.opens in
    let none : NoSpaceFor at c.args.places.now c.args.input.now c.image_at.new.places c.in-Err.error = rw c.in-Err.is at c.in_ok-bytes.ensures.ok in
    printed_so c.print.result (NoImage c.in-Err.error) _ _ (ImageSays at c.args.order c.args.places.now c.args.input.now c.image_at.new.places (ListSays None)) (inl none) c.print.ensures.ok

pub returns-in-Ok-of-clause-ok : goal.returns-in-Ok-of-clause-ok
returns-in-Ok-of-clause-ok g c =
    let at = g.P.Places.opens in
    let p = c.in-Ok-of.program in
    let same : c.in-Ok.bytes.items ≡ c.deref.result.now = search rules in
    let read = read_of at (λ v. v.items) c.args.places.now c.args.input.now c.image_at.new.places c.in_ok-bytes.field-0 c.in-Ok.bytes c.deref.result.now c.in-Ok.is same c.in_ok-bytes.ensures.ok in
    let image : LoadsImage at c.args.order c.args.places.now c.args.input.now c.image_at.new.places c.in-Ok-of.program
    = record { bytes = c.deref.result.now; read = read; is_image = record { program = c.in-Ok-of.ensures.program; bytes_are = c.in-Ok-of.ensures.ok.0.bytes_are }; order_is = c.in-Ok-of.ensures.ok.1 } in
    answered_so c.told.result 0 (Lists p) (ImageSays at c.args.order c.args.places.now c.args.input.now c.image_at.new.places (ListSays None)) refl (p, image, (refl, refl)) c.told.ensures.ok

pub returns-clause-ok : goal.returns-clause-ok
returns-clause-ok g c =
    let at = g.P.Places.opens in
    let same : c.in-Ok.bytes.items ≡ c.deref.result.now = search rules in
    let read = read_of at (λ v. v.items) c.args.places.now c.args.input.now c.image_at.new.places c.in_ok-bytes.field-0 c.in-Ok.bytes c.deref.result.now c.in-Ok.is same c.in_ok-bytes.ensures.ok in
    answered_so c.refused_image.result 1 (NoImage c.in-Err-of.error) (ImageSays at c.args.order c.args.places.now c.args.input.now c.image_at.new.places (ListSays None)) refl
    (inr (c.deref.result.now, read, c.in-Err-of.ensures.err)) c.refused_image.ensures.ok
