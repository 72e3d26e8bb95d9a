use Rattle.std.proofs.Common.{sym, ◌∙◌, ◌++◌, ◌∷◌, [], ap}
use Rattle.bpf_cert.specs.Reading.{term_in}
use Rattle.bpf_cert.specs.code.Seen.{term_seen}
use Rattle.bpf_cert.specs.code.Findings.{found}
use Rattle.bpf_cert.specs.code.TermSums.{are_canonical_terms, are_limited_terms}
use Rattle.bpf_cert.proofs.PieceLemmas.{taken_none, taken_more, taken_all, no_piece, no_last}
use Rattle.bpf_cert.proofs.TermLemmas.{term_form}
use Rattle.bpf_cert.proofs.term.terms_of.Goals as goal

pub pieces-init : goal.pieces-init
pieces-init c = ([], c.new-terms.ensures, taken_none 32 term_in c.args.text.now)

pub returns-in_default-term-clause-value : goal.returns-in_default-term-clause-value
returns-in_default-term-clause-value c = sym (ap (found are_canonical_terms are_limited_terms)
    (no_piece 32 term_in c.args.text.now c.pieces.rest.now c.in-Some.piece.now c.in-Some.more.now c.pieces.invariant.0 c.pieces.invariant.2 (sym c.in-Some.ensures.parts) (sym c.in_default-term.ensures)))

pub add-requires-clause-form : goal.add-requires-clause-form
add-requires-clause-form c = term_form c.in-Some.piece.now (term_seen c.in-Some-term.term) (sym c.in-Some-term.ensures)

pub add-requires-clause-sum : goal.add-requires-clause-sum
add-requires-clause-sum c = (c.pieces.invariant.0, c.pieces.invariant.1)

pub pieces-preserved : goal.pieces-preserved
pieces-preserved c = (
  c.pieces.invariant.0 ++ term_seen c.in-Some-term.term ∷ [],
  c.add.ensures c.pieces.invariant.0 c.pieces.invariant.1,
  taken_more 32 term_in c.args.text.now c.pieces.rest.now c.in-Some.piece.now c.in-Some.more.now c.pieces.invariant.0 (term_seen c.in-Some-term.term) c.pieces.invariant.2 (sym c.in-Some.ensures.parts) (sym c.in-Some-term.ensures),
)

pub returns-in_default-term-2-clause-value : goal.returns-in_default-term-2-clause-value
returns-in_default-term-2-clause-value c = sym (ap (found are_canonical_terms are_limited_terms)
    (no_last 32 term_in c.args.text.now c.pieces.rest.now c.pieces.invariant.0 c.pieces.invariant.2 (sym c.in_default.ensures.parts) (sym c.in_default-term-2.ensures)))

pub add-requires-2-clause-form : goal.add-requires-2-clause-form
add-requires-2-clause-form c = term_form c.pieces.rest.now (term_seen c.in-Some-term-2.last) (sym c.in-Some-term-2.ensures)

pub add-requires-2-clause-sum : goal.add-requires-2-clause-sum
add-requires-2-clause-sum c = (c.pieces.invariant.0, c.pieces.invariant.1)

pub returns-clause-value : goal.returns-clause-value
returns-clause-value c = c.value.ensures.value (c.pieces.invariant.0 ++ term_seen c.in-Some-term-2.last ∷ []) (c.add-2.ensures c.pieces.invariant.0 c.pieces.invariant.1)
    ∙ ap (found are_canonical_terms are_limited_terms) (sym (taken_all 32 term_in c.args.text.now c.pieces.rest.now c.pieces.invariant.0 (term_seen c.in-Some-term-2.last) c.pieces.invariant.2 (sym c.in_default.ensures.parts) (sym c.in-Some-term-2.ensures)))

pub returns-clause-kept : goal.returns-clause-kept
returns-clause-kept c = c.value.ensures.kept (c.pieces.invariant.0 ++ term_seen c.in-Some-term-2.last ∷ []) (c.add-2.ensures c.pieces.invariant.0 c.pieces.invariant.1)
