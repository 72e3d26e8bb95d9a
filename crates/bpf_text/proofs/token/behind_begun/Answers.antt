use Rattle.std.proofs.Common.{◌≡◌, false, sym, ap, ◌∙◌}
use Rattle.bpf_text.specs.code.WordReading.{skip_blanks}
use Rattle.bpf_text.specs.Lookup.{may_begin}
use Rattle.bpf_text.proofs.LookupLemmas.{begins_not}
use Rattle.bpf_text.proofs.token.behind_begun.Goals as goal

pub returns-else-may_begin : goal.returns-else-may_begin
returns-else-may_begin c =
    let other : may_begin c.args.spelling.now (skip_blanks c.args.text.now) ≡ false = ap (may_begin c.args.spelling.now) (sym c.requires) ∙ ap (λ s. may_begin s c.args.begin.now) (sym c.as_bytes.ensures.value) ∙ sym c.may_begin.ensures ∙ c.if-may_begin.false in
    sym (begins_not c.args.spelling.now c.args.text.now other)
