-- A text is one program or refused for one cause.
use Rattle.std.proofs.Common.{◌≡◌, ℕ, List, Ok, Err, Result, sym, ap, subst, ◌∙◌}
use Rattle.bpf_insn.specs.Refusal.{IsNoProgram}
use Rattle.bpf_insn.specs.declared.instruction.Insn.{Insn}
use Rattle.bpf_insn.specs.declared.refusal.BuildError.{BuildError}
use Rattle.bpf_insn.proofs.ListLaws.{list_never_both, list_refused_once}
use Rattle.bpf_text.specs.declared.error.TextError.{TextError}
use Rattle.bpf_text.specs.Sources.{Source, TextSays}
use Rattle.bpf_text.specs.Assembly.{instructions_of, program_error}
use Rattle.bpf_text.specs.Assembly.IsRefused.{no_instructions, no_program}
use Rattle.bpf_text.specs.Laws.{AssemblesToOne, NeverBoth, RefusedOnce}
use Rattle.bpf_text.proofs.TextsRead.{only_source}

same_ok : (x y : List Insn) → (let r : Result (List Insn) TextError = Ok x in r) ≡ Ok y → x ≡ y
same_ok x y e = cc

-- what a text says is said once
one_source : (text : List ℕ) (source other : Source) → TextSays text source → TextSays text other → source ≡ other
one_source text source other a b = sym (only_source text source a) ∙ only_source text other b

one_result : (text : List ℕ) (source other : Source) (r s : Result (List Insn) TextError) → TextSays text source → TextSays text other → instructions_of source ≡ r → instructions_of other ≡ s → r ≡ s
one_result text source other r s a b e f = sym e ∙ ap instructions_of (one_source text source other a b) ∙ f

pub to_one : AssemblesToOne
to_one text is js a b = same_ok is js (one_result text a.source b.source (Ok is) (Ok js) a.says b.says a.instructions b.instructions)

abbrev IsNone : BuildError → List Insn → Type 0
IsNone e is = IsNoProgram is e

pub text_never_both : NeverBoth
text_never_both text is e a (no_instructions {source = source} there h) = let both : Ok is ≡ Err e = one_result text a.source source (Ok is) (Err e) a.says there a.instructions h in cc
text_never_both text is e a (no_program {source = source} {is = js} {e = f} there h none) =
    let same : is ≡ js = same_ok is js (one_result text a.source source (Ok is) (Ok js) a.says there a.instructions h) in
    list_never_both is f a.program (subst (IsNone f) (sym same) none)

pub text_refused_once : RefusedOnce
text_refused_once text e other (no_instructions {source = source} there h) (no_instructions {source = source'} there' h') =
    let both : (let r : Result (List Insn) TextError = Err e in r) ≡ Err other = one_result text source source' (Err e) (Err other) there there' h h' in cc
text_refused_once text e other (no_instructions {source = source} there h) (no_program {source = source'} {is = is} there' h' none) =
    let both : Err e ≡ Ok is = one_result text source source' (Err e) (Ok is) there there' h h' in cc
text_refused_once text e other (no_program {source = source} {is = is} there h none) (no_instructions {source = source'} there' h') =
    let both : Ok is ≡ Err other = one_result text source source' (Ok is) (Err other) there there' h h' in cc
text_refused_once text e other (no_program {source = source} {is = is} {e = f} there h none) (no_program {source = source'} {is = js} {e = g} there' h' none') =
    let same : is ≡ js = same_ok is js (one_result text source source' (Ok is) (Ok js) there there' h h') in
    ap (λ z. program_error z.said f) (one_source text source source' there there') ∙ ap (program_error source'.said) (list_refused_once js f g (subst (IsNone f) same none) none')
