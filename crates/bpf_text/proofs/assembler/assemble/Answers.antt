use Rattle.std.proofs.Common.{◌≡◌, ℕ, List, ⊎_elim, inl, inr, Result, Ok, Err, map, ap, sym, ◌∙◌, subst}
use Rattle.bpf_insn.specs.Image.{IsProgram}
use Rattle.bpf_insn.specs.Refusal.{IsNoProgram}
use Rattle.bpf_insn.specs.declared.instruction.Insn.{Insn}
use Rattle.bpf_insn.specs.declared.refusal.BuildError.{BuildError}
use Rattle.bpf_text.specs.declared.error.TextError.{TextError}
use Rattle.bpf_text.specs.code.SourceSeen.{source_seen, said_seen}
use Rattle.bpf_text.specs.Sources.{Source}
use Rattle.bpf_text.specs.code.LineReading.{source_of}
use Rattle.bpf_text.specs.Assembly.{instructions_of, program_error, Assembles, IsRefused}
use Rattle.bpf_text.specs.Assembly.IsRefused.{no_instructions, no_program}
use Rattle.bpf_text.specs.Sources.{TextSays}
use Rattle.bpf_text.proofs.TextsRead.{text_says, only_source}
use Rattle.bpf_text.proofs.assembler.assemble.Goals as goal

refused : (text : List ℕ) (source : Source) (e : TextError) → source ≡ source_of text → instructions_of source ≡ Err e → IsRefused text e
refused text source e is h = no_instructions (subst (TextSays text) (sym is) (text_says text)) h

no_program_of : (text : List ℕ) (source : Source) (is : List Insn) (e : BuildError) (error : TextError) → source ≡ source_of text → instructions_of source ≡ Ok is → IsNoProgram is e → error ≡ program_error source.said e → IsRefused text error
no_program_of text source is e error same h none named = subst (IsRefused text) (sym named) (no_program (subst (TextSays text) (sym same) (text_says text)) h none)

assembled : (text : List ℕ) (source : Source) (is js : List Insn) → source ≡ source_of text → instructions_of source ≡ Ok is → js ≡ is → IsProgram js → Assembles text js
assembled text source is js same h e p = record { source = source; says = subst (TextSays text) (sym same) (text_says text); instructions = h ∙ ap Ok (sym e); program = p }

-- what a text assembles to is what its source says
said : (text : List ℕ) (source : Source) (is : List Insn) → source ≡ source_of text → Assembles text is → instructions_of source ≡ Ok is
said text source is same a = ap instructions_of (same ∙ only_source text a.source a.says) ∙ a.instructions

no_error : (text : List ℕ) (source : Source) (is : List Insn) (e : TextError) → source ≡ source_of text → Assembles text is → instructions_of source ≡ Err e → ⊥
no_error text source is e same a h = let both : Ok is ≡ Err e = sym (said text source is same a) ∙ h in cc

same_list : (text : List ℕ) (source : Source) (is js : List Insn) → source ≡ source_of text → Assembles text is → instructions_of source ≡ Ok js → js ≡ is
same_list text source is js same a h = let both : (let r : Result (List Insn) TextError = Ok js in r) ≡ Ok is = sym h ∙ said text source is same a in cc

pub returns-in-Err-clause-err : goal.returns-in-Err-clause-err
returns-in-Err-clause-err c =
    let same : source_seen c.in-Ok.source ≡ source_of c.args.text.now = c.in-Ok.ensures ∙ ap source_of c.as_bytes.ensures.value in
    ⊎_elim (λ m. inl m) (λ h. inr (refused c.args.text.now (source_seen c.in-Ok.source) c.in-Err.error same h)) c.in-Err.ensures.err

pub returns-clause-err : goal.returns-clause-err
returns-clause-err c =
    let same : source_seen c.in-Ok.source ≡ source_of c.args.text.now = c.in-Ok.ensures ∙ ap source_of c.as_bytes.ensures.value in
    let error : c.program_error.result ≡ program_error (map said_seen c.in-Ok.source.said.items) c.in-Err-new.error = rw c.deref.ensures.value at c.program_error.ensures in
    ⊎_elim (λ m. inl (error ∙ ap (program_error (map said_seen c.in-Ok.source.said.items)) m)) (λ h. inr (no_program_of c.args.text.now (source_seen c.in-Ok.source) c.in-Ok-instructions_of.insns.items c.in-Err-new.error c.program_error.result same c.in-Ok-instructions_of.ensures.ok h error)) c.in-Err-new.ensures.err

pub returns-in-Err-clause-accepts : goal.returns-in-Err-clause-accepts
returns-in-Err-clause-accepts c = λ is a.
    let same : source_seen c.in-Ok.source ≡ source_of c.args.text.now = c.in-Ok.ensures ∙ ap source_of c.as_bytes.ensures.value in
    ⊎_elim (λ m. m) (λ h. absurd (no_error c.args.text.now (source_seen c.in-Ok.source) is c.in-Err.error same a h)) c.in-Err.ensures.err

pub returns-in-Ok-new-clause-ok : goal.returns-in-Ok-new-clause-ok
returns-in-Ok-new-clause-ok c =
    let same : source_seen c.in-Ok.source ≡ source_of c.args.text.now = c.in-Ok.ensures ∙ ap source_of c.as_bytes.ensures.value in
    (assembled c.args.text.now (source_seen c.in-Ok.source) c.in-Ok-instructions_of.insns.items c.in-Ok-new.program.list same c.in-Ok-instructions_of.ensures.ok c.in-Ok-new.ensures.ok.0 c.in-Ok-new.ensures.program, c.in-Ok-new.ensures.ok.1)

pub returns-in-Ok-new-clause-accepts : goal.returns-in-Ok-new-clause-accepts
returns-in-Ok-new-clause-accepts c = λ is a.
    let same : source_seen c.in-Ok.source ≡ source_of c.args.text.now = c.in-Ok.ensures ∙ ap source_of c.as_bytes.ensures.value in
    c.in-Ok-new.ensures.ok.0 ∙ same_list c.args.text.now (source_seen c.in-Ok.source) is c.in-Ok-instructions_of.insns.items same a c.in-Ok-instructions_of.ensures.ok

pub returns-clause-accepts : goal.returns-clause-accepts
returns-clause-accepts c = λ is a.
    let same : source_seen c.in-Ok.source ≡ source_of c.args.text.now = c.in-Ok.ensures ∙ ap source_of c.as_bytes.ensures.value in
    let error : c.program_error.result ≡ program_error (map said_seen c.in-Ok.source.said.items) c.in-Err-new.error = rw c.deref.ensures.value at c.program_error.ensures in
    let list : is ≡ c.in-Ok-instructions_of.insns.items = sym (same_list c.args.text.now (source_seen c.in-Ok.source) is c.in-Ok-instructions_of.insns.items same a c.in-Ok-instructions_of.ensures.ok) in
    error ∙ ap (program_error (map said_seen c.in-Ok.source.said.items)) (c.in-Err-new.ensures.accepts (subst IsProgram list a.program))
