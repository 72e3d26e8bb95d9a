-- What is put slot by slot, and template by template.
use Rattle.std.proofs.Common.{◌≡◌, ℕ, suc, ◌+◌, ◌-◌, ◌<◌, List, ◌++◌, length, drop, get_or, Result, OnOk, codes, sym, ap, ◌∙◌, append_assoc, subst, arith}
use Rattle.std.specs.Prelude.{flat_map}
use Rattle.std.specs.List.{range_with_len}
use Rattle.std.proofs.lemmas.List.{drop_more}
use Rattle.bpf_classic.specs.declared.raw.Raw.{Raw}
use Rattle.bpf_classic.specs.Meaning.{Conversion}
use Rattle.bpf_insn.specs.Instruction.{Instructions, slots}
use Rattle.bpf_conversion.specs.Listed.{exit_text, headed, template_text, templates_end, templates_text}

-- one more slot
pub slots_more : (text : ℕ → List ℕ) (before after all : List ℕ) (to slot : ℕ) → slot < to → after ≡ before ++ text slot
    → before ++ flat_map text (range_with_len slot (to - slot)) ≡ all → after ++ flat_map text (range_with_len (slot + 1) (to - (slot + 1))) ≡ all
slots_more text before after all to slot low here known =
    let left : ℕ = to - (slot + 1) in
    let more : List ℕ = flat_map text (range_with_len (slot + 1) left) in
    let one : suc left ≡ to - slot = omega (arith, low) in
    ap (λ out. out ++ more) here ∙ append_assoc before (text slot) more ∙ ap (λ n. before ++ flat_map text (range_with_len slot n)) one ∙ known

-- one more template
pub templates_more : (c : Conversion) (raws : List Raw) (before after all : List ℕ) (at : ℕ) (d : Raw) → at < length raws
    → after ≡ before ++ template_text c at (get_or raws at d) → before ++ templates_text c at (drop at raws) ≡ all
    → after ++ templates_text c (at + 1) (drop (at + 1) raws) ≡ all
templates_more c raws before after all at d low here known =
    let more : List ℕ = templates_text c (at + 1) (drop (at + 1) raws) in
    ap (λ out. out ++ more) here
    ∙ append_assoc before (template_text c at (get_or raws at d)) more
    ∙ ap (λ xs. before ++ templates_text c at xs) (sym (drop_more raws at d low))
    ∙ known

-- the exit that answers 0, of the program
pub exit_put : {A E : Type 0} (result : Result A E) (after old : List ℕ) (c : Conversion) (p : Instructions) (end all : ℕ) → p ≡ c.program → end ≡ templates_end c
    → all ≡ slots p.list → OnOk result (after ≡ old ++ headed (codes "; answers 0\n") p.list end all) → OnOk result (after ≡ old ++ exit_text c)
exit_put result after old c p end all same ends counts put =
    subst (λ q. OnOk result (after ≡ old ++ headed (codes "; answers 0\n") q.list (templates_end c) (slots q.list))) same
    (subst (λ e. OnOk result (after ≡ old ++ headed (codes "; answers 0\n") p.list e (slots p.list))) ends
    (subst (λ n. OnOk result (after ≡ old ++ headed (codes "; answers 0\n") p.list end n)) counts put))
