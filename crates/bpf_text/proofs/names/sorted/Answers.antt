use Rattle.std.proofs.Common.{◌≡◌, ℕ, ◌+◌, ◌<◌, List, [], ◌∷◌, ◌++◌, Option, Some, None, map, take, drop, get_or, length, ap, sym, ◌∙◌, add-one, drop-cons}
use Rattle.std.proofs.lemmas.List.{take_more, map-append}
use Rattle.std.specs.Prelude.{if◌then◌else◌}
use Rattle.std.specs.Str.{bytes_eq}
use Rattle.std.proofs.lemmas.Map.Text.{btree_map_updates_str}
use Rattle.bpf_text.specs.declared.line.Label.{Label as Written}
use Rattle.bpf_text.specs.Assembly.{slot_of, redefined}
use Rattle.bpf_text.specs.code.Seen.{label_seen}
use Rattle.bpf_text.specs.code.Slots.{slots_sorted}
use Rattle.bpf_text.proofs.AssemblerLemmas.{Next, next}
use Rattle.bpf_text.proofs.names.sorted.Goals as goal

-- the labels up to one of them, and from it on
up_to : (labels : List Written) (i : ℕ) (d : Written) → i < length labels → map label_seen (take (i + 1) labels) ≡ map label_seen (take i labels) ++ label_seen (get_or labels i d) ∷ []
up_to labels i d inside = ap (map label_seen) (take_more labels i d inside) ∙ map-append label_seen (take i labels) (get_or labels i d ∷ [])

from : (labels : List Written) (i : ℕ) (d : Written) → i < length labels → map label_seen (drop i labels) ≡ label_seen (get_or labels i d) ∷ map label_seen (drop (i + 1) labels)
from labels i d inside = let here : drop i labels ≡ get_or labels i d ∷ drop (i + 1) labels = rw (add-one) (drop-cons labels i d inside) in ap (map label_seen) here

record Step (old new : List ℕ → Option ℕ) (labels : List Written) (i : ℕ) : Type 0 where
  slots : (name : List ℕ) → new name ≡ slot_of (map label_seen (take (i + 1) labels)) name
  unique : redefined (map label_seen (take (i + 1) labels)) (map label_seen (drop (i + 1) labels)) ≡ redefined [] (map label_seen labels)

step : (old new : List ℕ → Option ℕ) (labels : List Written) (i : ℕ) (d : Written) → i < length labels → ((name : List ℕ) → old name ≡ slot_of (map label_seen (take i labels)) name)
    → redefined (map label_seen (take i labels)) (map label_seen (drop i labels)) ≡ redefined [] (map label_seen labels)
    → None ≡ old (get_or labels i d).name.now → ((name : List ℕ) → new name ≡ (if bytes_eq (get_or labels i d).name.now name then Some (get_or labels i d).slot else old name))
    → Step old new labels i
step old new labels i d inside slots unique fresh put =
    let n : Next old new (map label_seen (take i labels)) (label_seen (get_or labels i d)) (map label_seen (drop (i + 1) labels)) (map label_seen labels)
    = next old new (map label_seen (take i labels)) (label_seen (get_or labels i d)) (map label_seen (drop (i + 1) labels)) (map label_seen labels) slots (rw (from labels i d inside) at unique) fresh put in
    record { slots = λ name. rw (up_to labels i d inside) (n.slots name); unique = rw (up_to labels i d inside) n.unique }

pub loop-label-preserved : goal.loop-label-preserved
loop-label-preserved c =
    let s : Step (slots_sorted c.loop-label.slots) (slots_sorted c.insert.new.self) c.args.labels.now c.loop-label.label-index
    = step (slots_sorted c.loop-label.slots) (slots_sorted c.insert.new.self) c.args.labels.now c.loop-label.label-index _ c.loop-label-test.true c.loop-label.invariant.slots c.loop-label.invariant.unique
    (sym c.in-Ok-None.field-0-is ∙ c.in-Ok-None.ensures.old) (λ name. btree_map_updates_str _ c.loop-label.slots c.insert.new.self _ c.in-Ok-None.ensures.updates name) in
    record { slots = s.slots; unique = s.unique }
