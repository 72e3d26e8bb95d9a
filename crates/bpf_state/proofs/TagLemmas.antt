-- The counters of slots, where there is one and where there is none.
use Rattle.std.proofs.Common.{◌≡◌, ℕ, ◌<◌, Bool, true, false, List, length, get_or, Option, None, sym, ap, ◌∙◌}
use Rattle.std.specs.Prelude.{set}
use Rattle.std.proofs.lemmas.List.{get_or-replicate, set-get_or}
use Rattle.bpf_state.specs.declared.known.Tag.{Tag}
use Rattle.bpf_state.specs.code.Tags.{held_tags}

pub count_tags : (some : Bool) (tags held : List (Option Tag)) → held_tags some tags ≡ held → length tags ≡ 64 → length held ≡ 64
count_tags true tags held e long = sym (ap length e) ∙ long
count_tags false tags held e long = sym (ap length e)

pub got_none : (some : Bool) (tags held : List (Option Tag)) (i : ℕ) → held_tags some tags ≡ held → some ≡ false → i < 64 → None ≡ get_or held i None
got_none some tags held i e none few = sym (get_or-replicate 64 i None None few) ∙ ap (λ b. get_or (held_tags b tags) i None) (sym none) ∙ ap (λ l. get_or l i None) e

-- where no slot holds a counter, one slot more holds none
pub set_none : (some : Bool) (tags held : List (Option Tag)) (i : ℕ) (t : Option Tag) → held_tags some tags ≡ held → some ≡ false → t ≡ None → i < 64 → held ≡ set held i t
set_none some tags held i t e none untagged few =
    let here : get_or held i None ≡ None = sym (got_none some tags held i e none few) in
    sym (set-get_or held i None) ∙ ap (set held i) (here ∙ sym untagged)
