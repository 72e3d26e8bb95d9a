use Rattle.std.proofs.Common.{◌≡◌, ◌⊎◌, refl, inl, rules}
use Rattle.std.specs.String.{string_bytes}
use Rattle.bpf_text.specs.Assembly.{Assembles, IsRefused}
use Rattle.bpf_text.specs.declared.error.TextError.TheVariants.{Memory}
use Rattle.bpf_answers.specs.Loaded.{ShortTextAt}
use Rattle.bpf_answers.specs.declared.answer.Answer.TheVariants.{NoText, Lists}
use Rattle.bpf_command.specs.Explained.{TextSays}
use Rattle.bpf_answers.proofs.TextLemmas.{text_says}
use Rattle.bpf_command.proofs.ExplainedLemmas.{answered_so, printed_so}
use Rattle.bpf_command.proofs.commands.explain.explained_text.Goals as goal

pub returns-in-Ok-clause-ok : goal.returns-in-Ok-clause-ok
returns-in-Ok-clause-ok g c =
    let at = g.P.Places.opens in
    let p = c.in-Ok.program in
    let read : ShortTextAt at c.args.places.now c.args.input.now c.readable_text_at.new.places (λ bytes. string_bytes c.in_ok-text.text ≡ bytes) = c.in_ok-text.ensures.ok in
    let said : Assembles (string_bytes c.in_ok-text.text) p.list = search rules in
    answered_so c.told.result 0 (Lists p) (TextSays at c.args.places.now c.args.input.now c.readable_text_at.new.places) refl
    (text_says at c.args.places.now c.args.input.now c.readable_text_at.new.places (string_bytes c.in_ok-text.text) (λ t. Assembles t p.list) read said)
    c.told.ensures.ok

pub returns-in-Err-Memory-clause-ok : goal.returns-in-Err-Memory-clause-ok
returns-in-Err-Memory-clause-ok g c =
    let at = g.P.Places.opens in
    let read : ShortTextAt at c.args.places.now c.args.input.now c.readable_text_at.new.places (λ bytes. string_bytes c.in_ok-text.text ≡ bytes) = c.in_ok-text.ensures.ok in
    printed_so c.print.result (NoText Memory) _ _ (TextSays at c.args.places.now c.args.input.now c.readable_text_at.new.places)
    (text_says at c.args.places.now c.args.input.now c.readable_text_at.new.places (string_bytes c.in_ok-text.text) (λ t. (Memory ≡ Memory) ⊎ IsRefused t Memory) read (inl refl)) c.print.ensures.ok

pub returns : goal.returns
returns g c =
    let at = g.P.Places.opens in
    let e = c.in-Err.error in
    let read : ShortTextAt at c.args.places.now c.args.input.now c.readable_text_at.new.places (λ bytes. string_bytes c.in_ok-text.text ≡ bytes) = c.in_ok-text.ensures.ok in
    let refused : (e ≡ Memory) ⊎ IsRefused (string_bytes c.in_ok-text.text) e = search rules in
    record {
      ok = answered_so c.told-in-Err.result 1 (NoText e) (TextSays at c.args.places.now c.args.input.now c.readable_text_at.new.places) refl
          (text_says at c.args.places.now c.args.input.now c.readable_text_at.new.places (string_bytes c.in_ok-text.text) (λ t. (e ≡ Memory) ⊎ IsRefused t e) read refused)
          c.told-in-Err.ensures.ok;
      err = search rules;
      opened = search rules;
    }
