use Rattle.std.proofs.Common.{inl, inr, rules, true, ◌<◌, IfErr}
use Rattle.std.proofs.lemmas.Result.{err_from_is_err_and}
use Rattle.std.specs.String.{string_bytes}
use Rattle.bpf_insn.specs.Instruction.{slots}
use Rattle.bpf_insn.specs.Image.{image as image_of}
use Rattle.bpf_answers.specs.Loaded.{LoadsImage}
use Rattle.bpf_answers.specs.Made.{making}
use Rattle.bpf_answers.specs.Both.{NotPut}
use Rattle.bpf_answers.proofs.MadeLemmas.{on_failure}
use Rattle.bpf_command.proofs.HardenedLemmas.{all_stand, fail_behind, made_of, out_fails, texts_fail, texts_unput}
use Rattle.bpf_command.specs.Hardened.{IsUnshown, texts_of}
use Rattle.bpf_command.specs.Texts.{TextsFail}
use Rattle.bpf_command.specs.declared.commands.harden.UnshownMeaning.TheVariants.{Differs}
use Rattle.bpf_command.proofs.commands.harden.hardened.Goals as goal

pub returns-in-Err-Memory-clause-ok : goal.returns-in-Err-Memory-clause-ok
returns-in-Err-Memory-clause-ok g c =
    let image : LoadsImage g.P.Places.opens c.args.asked.order c.args.places.now c.args.asked.input.now c.program_at.new.places c.in-Ok.program = search rules in
    let some : 0 < slots c.in-Ok.program.list = search rules in
    (c.in-Ok.program, image, some)

pub returns-in-Err-Differs-clause-ok : goal.returns-in-Err-Differs-clause-ok
returns-in-Err-Differs-clause-ok g c =
    let made = c.in-Ok-answer_of.hardened.program in
    let image : LoadsImage g.P.Places.opens c.args.asked.order c.args.places.now c.args.asked.input.now c.program_at.new.places c.in-Ok.program = search rules in
    let unshown : IsUnshown c.in-Ok.program made c.args.asked (Differs c.in-Err-Differs.mismatch) = search rules in
    (c.in-Ok.program, made, image, c.in-Ok-answer_of.ensures.program, unshown)

pub returns-in_err-put-clause-err : goal.returns-in_err-put-clause-err
returns-in_err-put-clause-err g c =
    let at = g.P.Places.opens in
    let puts = making g.P.Places.creates g.P.Places.ends g.P.Writer.Write.contents in
    let asked = c.args.asked in
    let made = c.in-Ok-answer_of.hardened.program in
    let found = c.in-Ok-answer_of.hardened.certificate in
    let kept = c.in-Ok-notes_for.noted.kept in
    let noted = c.in-Ok-notes_for.ensures.kept in
    let image : LoadsImage at asked.order c.args.places.now asked.input.now c.program_at.new.places c.in-Ok.program = search rules in
    let hardens = made_of at c.args.places.now asked c.program_at.new.places c.in-Ok.program made found noted.0 kept image c.in-Ok-answer_of.ensures.program noted.1 in
    let fails : IfErr c.from_residual-in_err-put.result (NotPut puts c.program_at.new.places asked.output (image_of made.order made.list) c.put.new.places)
    = let p = err_from_is_err_and c.from_residual-in_err-put.result c.from_residual-in_err-put.ensures.1 in rw (p.1, p.2) c.in_err-put.ensures.err in
    out_fails c.from_residual-in_err-put.result at puts c.args.places.now asked c.program_at.new.places c.put.new.places made found noted.0 kept hardens fails

pub returns-in_err-put-clause-names : goal.returns-in_err-put-clause-names
returns-in_err-put-clause-names g c =
    let at = g.P.Places.opens in
    let asked = c.args.asked in
    let made = c.in-Ok-answer_of.hardened.program in
    let found = c.in-Ok-answer_of.hardened.certificate in
    let kept = c.in-Ok-notes_for.noted.kept in
    let noted = c.in-Ok-notes_for.ensures.kept in
    let image : LoadsImage at asked.order c.args.places.now asked.input.now c.program_at.new.places c.in-Ok.program = search rules in
    let hardens = made_of at c.args.places.now asked c.program_at.new.places c.in-Ok.program made found noted.0 kept image c.in-Ok-answer_of.ensures.program noted.1 in
    on_failure c.from_residual-in_err-put.result _ (inr (inl (c.program_at.new.places, made, found, noted.0, kept, hardens, c.in_err-put.ensures.err.1)))

pub returns-in_err-put_texts-clause-err : goal.returns-in_err-put_texts-clause-err
returns-in_err-put_texts-clause-err g c =
    let at = g.P.Places.opens in
    let puts = making g.P.Places.creates g.P.Places.ends g.P.Writer.Write.contents in
    let asked = c.args.asked in
    let made = c.in-Ok-answer_of.hardened.program in
    let found = c.in-Ok-answer_of.hardened.certificate in
    let beside = c.in-Ok-notes_for.noted.beside in
    let kept = c.in-Ok-notes_for.noted.kept in
    let noted = c.in-Ok-notes_for.ensures.kept in
    let image : LoadsImage at asked.order c.args.places.now asked.input.now c.program_at.new.places c.in-Ok.program = search rules in
    let hardens = made_of at c.args.places.now asked c.program_at.new.places c.in-Ok.program made found noted.0 kept image c.in-Ok-answer_of.ensures.program noted.1 in
    let whole : puts c.program_at.new.places asked.output.now (image_of made.order made.list) true c.put.new.places = c.in_ok-put.ensures.ok.1 in
    let fails : IfErr c.from_residual-in_err-put_texts.result (TextsFail puts c.put.new.places (texts_of asked found beside.notes.items (string_bytes beside.changes)) c.put_texts.new.places)
    = let p = err_from_is_err_and c.from_residual-in_err-put_texts.result c.from_residual-in_err-put_texts.ensures.1 in rw (p.1, p.2) c.in_err-put_texts.ensures.err in
    texts_fail c.from_residual-in_err-put_texts.result at puts c.args.places.now asked c.put_texts.new.places
    (texts_unput c.from_residual-in_err-put_texts.result at puts c.args.places.now asked c.program_at.new.places c.put.new.places c.put_texts.new.places made found noted.0 kept beside.notes.items (string_bytes beside.changes) hardens whole
    noted.2 fails)

pub returns-in_err-put_texts-clause-names : goal.returns-in_err-put_texts-clause-names
returns-in_err-put_texts-clause-names g c =
    let at = g.P.Places.opens in
    let puts = making g.P.Places.creates g.P.Places.ends g.P.Writer.Write.contents in
    let asked = c.args.asked in
    let made = c.in-Ok-answer_of.hardened.program in
    let found = c.in-Ok-answer_of.hardened.certificate in
    let beside = c.in-Ok-notes_for.noted.beside in
    let kept = c.in-Ok-notes_for.noted.kept in
    let noted = c.in-Ok-notes_for.ensures.kept in
    let image : LoadsImage at asked.order c.args.places.now asked.input.now c.program_at.new.places c.in-Ok.program = search rules in
    let hardens = made_of at c.args.places.now asked c.program_at.new.places c.in-Ok.program made found noted.0 kept image c.in-Ok-answer_of.ensures.program noted.1 in
    let whole : puts c.program_at.new.places asked.output.now (image_of made.order made.list) true c.put.new.places = c.in_ok-put.ensures.ok.1 in
    on_failure c.from_residual-in_err-put_texts.result _
    (inr (inr (
      _,
      fail_behind at puts c.args.places.now asked c.program_at.new.places c.put.new.places c.put_texts.new.places made found noted.0 kept beside.notes.items (string_bytes beside.changes) _ hardens whole noted.2
          c.in_err-put_texts.ensures.err,
    )))

pub returns-clause-ok : goal.returns-clause-ok
returns-clause-ok g c =
    let at = g.P.Places.opens in
    let puts = making g.P.Places.creates g.P.Places.ends g.P.Writer.Write.contents in
    let asked = c.args.asked in
    let made = c.in-Ok-answer_of.hardened.program in
    let found = c.in-Ok-answer_of.hardened.certificate in
    let beside = c.in-Ok-notes_for.noted.beside in
    let kept = c.in-Ok-notes_for.noted.kept in
    let noted = c.in-Ok-notes_for.ensures.kept in
    let image : LoadsImage at asked.order c.args.places.now asked.input.now c.program_at.new.places c.in-Ok.program = search rules in
    let hardens = made_of at c.args.places.now asked c.program_at.new.places c.in-Ok.program made found noted.0 kept image c.in-Ok-answer_of.ensures.program noted.1 in
    let whole : puts c.program_at.new.places asked.output.now (image_of made.order made.list) true c.put.new.places = c.in_ok-put.ensures.ok.1 in
    all_stand at puts c.args.places.now asked c.program_at.new.places c.put.new.places c.put_texts.new.places made found noted.0 kept beside.notes.items (string_bytes beside.changes) hardens whole noted.2
    c.in_ok-put_texts.ensures.ok.1
