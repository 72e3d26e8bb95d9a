use Rattle.std.proofs.Common.{rules, refl, inl, inr, false}
use Rattle.std.specs.Io.KnownBytes.{Appends}
use Rattle.bpf_insn.specs.Written.{AppendsBeginning}
use Rattle.bpf_answers.proofs.MadeLemmas.{none_begun, whole}
use Rattle.bpf_answers.proofs.both.put_both.Goals as goal

-- the first can't be written
pub returns-then-is_err-clause-err : goal.returns-then-is_err-clause-err
returns-then-is_err-clause-err g c =
    let bytes = g.P.Writer.Write.contents in
    let begun : AppendsBeginning (bytes c.in-Ok.writer) (bytes c.write_to.new.out) (g.C.Content.bytes c.args.content.now) = search rules in
    inl (
      inl refl,
      inr (inr (record {
        made = c.in-Ok.writer;
        beside = c.in-Ok-create.other;
        written = c.write_to.new.out;
        also = c.in-Ok-create.other;
        one = c.create.new.self;
        two = c.create-2.new.self;
        three = c.discard-then-is_err.new.self;
        created = c.in-Ok.ensures.creates;
        created_also = c.in-Ok-create.ensures.creates;
        begun = begun;
        begun_also = none_begun _ _;
        ended = c.discard-then-is_err.ensures;
        ended_also = c.discard-then-is_err-2.ensures;
      })),
    )

-- the second can't be written
pub returns-then-is_err-2-clause-err : goal.returns-then-is_err-2-clause-err
returns-then-is_err-2-clause-err g c =
    let bytes = g.P.Writer.Write.contents in
    let all : Appends (bytes c.in-Ok.writer) (bytes c.write_to.new.out) (g.C.Content.bytes c.args.content.now) = search rules in
    let begun : AppendsBeginning (bytes c.in-Ok-create.other) (bytes c.write_to-2.new.out) (g.D.Content.bytes c.args.beside.now) = search rules in
    inl (
      inr (inl refl),
      inr (inr (record {
        made = c.in-Ok.writer;
        beside = c.in-Ok-create.other;
        written = c.write_to.new.out;
        also = c.write_to-2.new.out;
        one = c.create.new.self;
        two = c.create-2.new.self;
        three = c.discard-then-is_err-2-2.new.self;
        created = c.in-Ok.ensures.creates;
        created_also = c.in-Ok-create.ensures.creates;
        begun = whole _ _ _ all;
        begun_also = begun;
        ended = c.discard-then-is_err-2-2.ensures;
        ended_also = c.discard-then-is_err-2-3.ensures;
      })),
    )

-- the first can't be finished
pub returns-then-is_err-3-clause-err : goal.returns-then-is_err-3-clause-err
returns-then-is_err-3-clause-err g c =
    let bytes = g.P.Writer.Write.contents in
    let all : Appends (bytes c.in-Ok.writer) (bytes c.write_to.new.out) (g.C.Content.bytes c.args.content.now) = search rules in
    let all_also : Appends (bytes c.in-Ok-create.other) (bytes c.write_to-2.new.out) (g.D.Content.bytes c.args.beside.now) = search rules in
    let ended : g.P.Places.ends c.create-2.new.self c.write_to.new.out false c.finish.new.self = search rules in
    inl (
      inl refl,
      inr (inr (record {
        made = c.in-Ok.writer;
        beside = c.in-Ok-create.other;
        written = c.write_to.new.out;
        also = c.write_to-2.new.out;
        one = c.create.new.self;
        two = c.create-2.new.self;
        three = c.finish.new.self;
        created = c.in-Ok.ensures.creates;
        created_also = c.in-Ok-create.ensures.creates;
        begun = whole _ _ _ all;
        begun_also = whole _ _ _ all_also;
        ended = ended;
        ended_also = c.discard-then-is_err-3.ensures;
      })),
    )
