use Rattle.std.proofs.Common.{◌≡◌, ◌<◌, ◌-◌, ℕ, zero, suc, List, [], Some, None, get_or, option_map, ap, sym, ◌∙◌, refl, arith}
use Rattle.bpf_text.specs.Sources.{before, lines_of, without_comment}
use Rattle.bpf_text.specs.code.LineReading.{behind_it}
use Rattle.bpf_text.proofs.LineLemmas.{split_cut}
use Rattle.bpf_text.proofs.excerpt.code_at.Goals as goal

lines_later : (text more : List ℕ) (left : ℕ) → 0 < left → behind_it 10 text ≡ Some more → get_or (lines_of text) left [] ≡ get_or (lines_of more) (left - 1) []
lines_later text more zero h e = absurd (omega arith)
lines_later text more (suc k) h e = let less : k ≡ suc k - 1 = omega arith in rw (split_cut 10 text, e) (ap (λ n. get_or (lines_of more) n []) less)

lines_end : (text : List ℕ) (left : ℕ) → 0 < left → behind_it 10 text ≡ None → get_or (lines_of text) left [] ≡ []
lines_end text zero h e = absurd (omega arith)
lines_end text (suc k) h e = rw (split_cut 10 text, e) refl

first_line : (text : List ℕ) → before 10 text ≡ get_or (lines_of text) 0 []
first_line text = rw (split_cut 10 text) refl

pub returns-in_default : goal.returns-in_default
returns-in_default c =
    let none : behind_it 10 c.above.rest.now ≡ None = sym c.cut_line.ensures.rest ∙ ap (option_map (λ x. x.now)) c.in_default.is in
    ap without_comment (sym (lines_end c.above.rest.now c.above.left c.above-test.true none) ∙ c.above.invariant)

pub above-preserved : goal.above-preserved
above-preserved c =
    let some : behind_it 10 c.above.rest.now ≡ Some c.in-Some.more.now = sym c.cut_line.ensures.rest ∙ ap (option_map (λ x. x.now)) c.in-Some.is in
    sym (lines_later c.above.rest.now c.in-Some.more.now c.above.left c.above-test.true some) ∙ c.above.invariant

pub returns : goal.returns
returns c =
    let none : c.above.left ≡ 0 = let test = c.above-test.false in omega arith in
    c.cut_line-2.ensures.front ∙ ap without_comment (first_line c.above.rest.now ∙ ap (λ n. get_or (lines_of c.above.rest.now) n []) (sym none) ∙ c.above.invariant)
