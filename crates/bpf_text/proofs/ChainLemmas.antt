-- Labels that are chained by the buckets of their names.
use Rattle.std.proofs.Common.{◌≡◌, ℕ, ◌+◌, ◌-◌, ◌<◌, ◌≤◌, ⊎_elim, Bool, true, false, cond, List, [], ◌∷◌, ◌++◌, Some, None, length, take, get_or, set, map, refl, sym, ap, ◌∙◌, subst, length-append, arith}
use Rattle.std.specs.Str.{bytes_eq}
use Rattle.std.proofs.lemmas.Slice.Eq.{bytes_eq-Decides}
use Rattle.std.proofs.lemmas.Bool.{cases_eq}
use Rattle.std.proofs.lemmas.List.{take_more, take_all, take-append-le, get_or_append_left, get_or_push, get_or-set_same, get_or-set_other, length-set, length-map, get_or-map, map-append}
use Rattle.bpf_text.specs.Sources.{Label}
use Rattle.bpf_text.specs.Assembly.{slot_of}
use Rattle.bpf_text.specs.declared.chains.ChainedLabel.{ChainedLabel}
use Rattle.bpf_text.specs.code.Chains.{bucket_of, ChainLeads, IsChained, Seeks, entry_label, entry_link}
use Rattle.bpf_text.proofs.AssemblerLemmas.{slot_push}

-- ---- a search

-- the labels below one bucket more
one_more : (ls : List Label) (k : ℕ) (d : Label) (name : List ℕ) → k < length ls → slot_of (take k ls) (get_or ls k d).name ≡ None
    → slot_of (take (k + 1) ls) name ≡ cond (bytes_eq (get_or ls k d).name name) (Some (get_or ls k d).slot) (slot_of (take k ls) name)
one_more ls k d name inside none = ap (λ xs. slot_of xs name) (take_more ls k d inside) ∙ slot_push (take k ls) (get_or ls k d) name none

at_label : (buckets : ℕ) (ls : List Label) (heads links : List ℕ) → IsChained buckets ls heads links → (name : List ℕ) (at : ℕ) (d : Label) → Seeks buckets ls name at → 0 < at
    → slot_of ls name ≡ cond (bytes_eq (get_or ls (at - 1) d).name name) (Some (get_or ls (at - 1) d).slot) (slot_of (take (at - 1) ls) name)
at_label buckets ls heads links chained name at d seeks some =
    let whole : at ≡ at - 1 + 1 = omega (arith, some) in
    let below : at - 1 < length ls = omega (arith, some, seeks.inside) in
    sym seeks.same ∙ ap (λ n. slot_of (take n ls) name) whole ∙ one_more ls (at - 1) d name below (chained.differ (at - 1) d below)

pub seek_found : (buckets : ℕ) (ls : List Label) (heads links : List ℕ) → IsChained buckets ls heads links → (name : List ℕ) (at : ℕ) (d : Label) → Seeks buckets ls name at → 0 < at
    → bytes_eq (get_or ls (at - 1) d).name name ≡ true → Some (get_or ls (at - 1) d).slot ≡ slot_of ls name
seek_found buckets ls heads links chained name at d seeks some e = sym (at_label buckets ls heads links chained name at d seeks some ∙ ap (λ b. cond b (Some (get_or ls (at - 1) d).slot) (slot_of (take (at - 1) ls) name)) e)

pub seek_on : (buckets : ℕ) (ls : List Label) (heads links : List ℕ) → IsChained buckets ls heads links → (name : List ℕ) (at x : ℕ) (d : Label) → Seeks buckets ls name at → 0 < at
    → bytes_eq (get_or ls (at - 1) d).name name ≡ false → Seeks buckets ls name (get_or links (at - 1) x)
seek_on buckets ls heads links chained name at x d seeks some e =
    let below : at - 1 < length ls = omega (arith, some, seeks.inside) in
    let lead : ChainLeads buckets ls (bucket_of buckets (get_or ls (at - 1) d).name) (at - 1) (get_or links (at - 1) x) = chained.goes_on (at - 1) x d below in
    let here : bucket_of buckets (get_or ls (at - 1) d).name ≡ bucket_of buckets name = seeks.there d some in
    let rest : slot_of ls name ≡ slot_of (take (at - 1) ls) name = at_label buckets ls heads links chained name at d seeks some ∙ ap (λ b. cond b (Some (get_or ls (at - 1) d).slot) (slot_of (take (at - 1) ls) name)) e in
    record {
      inside = omega (arith, lead.inside, seeks.inside);
      there = λ f more. lead.there f more ∙ here;
      same = lead.same name (sym here) ∙ sym rest;
    }

-- each link goes down
pub link_below : (buckets : ℕ) (ls : List Label) (heads links : List ℕ) → IsChained buckets ls heads links → (k x : ℕ) → Label → k < length ls → get_or links k x ≤ k
link_below buckets ls heads links chained k x d inside = let lead : ChainLeads buckets ls (bucket_of buckets (get_or ls k d).name) k (get_or links k x) = chained.goes_on k x d inside in lead.inside

-- ---- no labels

-- ---- one label more

-- the same chain, with labels behind those that it is among
lead_more : (buckets : ℕ) (ls ms : List Label) (bucket n at : ℕ) → n ≤ length ls → ChainLeads buckets ls bucket n at → ChainLeads buckets (ls ++ ms) bucket n at
lead_more buckets ls ms bucket n at few lead = record {
  inside = lead.inside;
  there = λ d some. ap (λ (l : Label). bucket_of buckets l.name) (get_or_append_left ls ms d (at - 1) (omega (arith, some, few, lead.inside))) ∙ lead.there d some;
  same = λ name e. ap (λ xs. slot_of xs name) (take-append-le at ls ms (omega (arith, few, lead.inside))) ∙ lead.same name e ∙ sym (ap (λ xs. slot_of xs name) (take-append-le n ls ms few));
}

others_apart : (buckets : ℕ) (l : Label) (bucket : ℕ) (name : List ℕ) → (bucket ≡ bucket_of buckets l.name → ⊥) → bucket_of buckets name ≡ bucket → bytes_eq l.name name ≡ false
others_apart buckets l bucket name apart e = go (bytes_eq l.name name) refl
  where
    go : (b : Bool) → bytes_eq l.name name ≡ b → b ≡ false
    go true f = absurd (apart (sym e ∙ ap (bucket_of buckets) (sym ((bytes_eq-Decides l.name name).0 f))))
    go false f = refl

-- the chain of another bucket
lead_other : (buckets : ℕ) (ls : List Label) (l : Label) (bucket at : ℕ) → slot_of ls l.name ≡ None → (bucket ≡ bucket_of buckets l.name → ⊥) → ChainLeads buckets ls bucket (length ls) at → ChainLeads buckets (ls ++ l ∷ []) bucket (length (ls ++ l ∷ [])) at
lead_other buckets ls l bucket at none apart lead =
    let more : ChainLeads buckets (ls ++ l ∷ []) bucket (length ls) at = lead_more buckets ls (l ∷ []) bucket (length ls) at (omega arith) lead in
    record {
      inside = omega (arith, more.inside, length-append ls (l ∷ []));
      there = λ d some. more.there d some;
      same = λ name e. more.same name e ∙ ap (λ xs. slot_of xs name) (take-append-le (length ls) ls (l ∷ []) (omega arith) ∙ take_all (length ls) ls (omega arith))
          ∙ sym (ap (λ xs. slot_of xs name) (take_all (length (ls ++ l ∷ [])) (ls ++ l ∷ []) (omega arith)) ∙ slot_push ls l name none ∙ ap (λ b. cond b (Some l.slot) (slot_of ls name)) (others_apart buckets l bucket name apart e));
    }

-- the chain that the label is put on
lead_here : (buckets : ℕ) (ls : List Label) (l : Label) → ChainLeads buckets (ls ++ l ∷ []) (bucket_of buckets l.name) (length (ls ++ l ∷ [])) (length ls + 1)
lead_here buckets ls l =
    let count : length (ls ++ l ∷ []) ≡ length ls + 1 = length-append ls (l ∷ []) in
    record {
      inside = omega (arith, count);
      there = λ d some. ap (λ (m : Label). bucket_of buckets m.name) (get_or_push ls l d (length ls + 1 - 1) (omega arith));
      same = λ name e. ap (λ n. slot_of (take n (ls ++ l ∷ [])) name) (sym count);
    }

pub chained_more : (buckets : ℕ) (ls : List Label) (heads links : List ℕ) (l : Label) (head : ℕ) → IsChained buckets ls heads links → slot_of ls l.name ≡ None → bucket_of buckets l.name < buckets
    → ((x : ℕ) → head ≡ get_or heads (bucket_of buckets l.name) x) → IsChained buckets (ls ++ l ∷ []) (set heads (bucket_of buckets l.name) (length ls + 1)) (links ++ head ∷ [])
chained_more buckets ls heads links l head chained none inside is = record {
  some = chained.some;
  few = chained.few;
  counted = length-set heads (bucket_of buckets l.name) (length ls + 1) ∙ chained.counted;
  linked = omega (arith, chained.linked, length-append ls (l ∷ []), length-append links (head ∷ []));
  begins = λ bucket d h. ⊎_elim (λ e. at_bucket bucket d e) (λ apart. at_other bucket d h apart) (cases_eq bucket (bucket_of buckets l.name));
  goes_on = λ k d e h. ⊎_elim (λ f. last_goes k d e f) (λ apart. other_goes k d e h apart) (cases_eq k (length ls));
  differ = λ k d h. ⊎_elim (λ e. last_differs k d e) (λ apart. other_differs k d h apart) (cases_eq k (length ls));
}
  where
    at_bucket : (bucket d : ℕ) → bucket ≡ bucket_of buckets l.name → ChainLeads buckets (ls ++ l ∷ []) bucket (length (ls ++ l ∷ [])) (get_or (set heads (bucket_of buckets l.name) (length ls + 1)) bucket d)
    at_bucket bucket d e =
        let value : get_or (set heads (bucket_of buckets l.name) (length ls + 1)) (bucket_of buckets l.name) d ≡ length ls + 1 = get_or-set_same heads (bucket_of buckets l.name) (length ls + 1) d (omega (arith, inside, chained.counted)) in
        subst (λ p. ChainLeads buckets (ls ++ l ∷ []) p (length (ls ++ l ∷ [])) (get_or (set heads (bucket_of buckets l.name) (length ls + 1)) p d)) (sym e)
        (subst (ChainLeads buckets (ls ++ l ∷ []) (bucket_of buckets l.name) (length (ls ++ l ∷ []))) (sym value) (lead_here buckets ls l))

    at_other : (bucket d : ℕ) → bucket < buckets → (bucket ≡ bucket_of buckets l.name → ⊥) → ChainLeads buckets (ls ++ l ∷ []) bucket (length (ls ++ l ∷ [])) (get_or (set heads (bucket_of buckets l.name) (length ls + 1)) bucket d)
    at_other bucket d h apart =
        subst (ChainLeads buckets (ls ++ l ∷ []) bucket (length (ls ++ l ∷ []))) (sym (get_or-set_other heads (bucket_of buckets l.name) bucket (length ls + 1) d apart)) (lead_other buckets ls l bucket (get_or heads bucket d) none apart (chained.begins bucket d h))

    few_below : (k : ℕ) → k < length (ls ++ l ∷ []) → (k ≡ length ls → ⊥) → k < length ls
    few_below k h apart = omega (arith, h, apart, length-append ls (l ∷ []))

    last_goes : (k d : ℕ) (e : Label) → k ≡ length ls → ChainLeads buckets (ls ++ l ∷ []) (bucket_of buckets (get_or (ls ++ l ∷ []) k e).name) k (get_or (links ++ head ∷ []) k d)
    last_goes k d e f =
        let label : get_or (ls ++ l ∷ []) k e ≡ l = get_or_push ls l e k (sym f) in
        let link : get_or (links ++ head ∷ []) k d ≡ get_or heads (bucket_of buckets l.name) d = get_or_push links head d k (chained.linked ∙ sym f) ∙ is d in
        subst (λ (m : Label). ChainLeads buckets (ls ++ l ∷ []) (bucket_of buckets m.name) k (get_or (links ++ head ∷ []) k d)) (sym label)
        (subst (ChainLeads buckets (ls ++ l ∷ []) (bucket_of buckets l.name) k) (sym link)
        (subst (λ n. ChainLeads buckets (ls ++ l ∷ []) (bucket_of buckets l.name) n (get_or heads (bucket_of buckets l.name) d)) (sym f) (lead_more buckets ls (l ∷ []) (bucket_of buckets l.name) (length ls) (get_or heads (bucket_of buckets l.name) d) (omega arith) (chained.begins (bucket_of buckets l.name) d inside))))

    other_goes : (k d : ℕ) (e : Label) → k < length (ls ++ l ∷ []) → (k ≡ length ls → ⊥) → ChainLeads buckets (ls ++ l ∷ []) (bucket_of buckets (get_or (ls ++ l ∷ []) k e).name) k (get_or (links ++ head ∷ []) k d)
    other_goes k d e h apart =
        let below : k < length ls = few_below k h apart in
        subst (λ (m : Label). ChainLeads buckets (ls ++ l ∷ []) (bucket_of buckets m.name) k (get_or (links ++ head ∷ []) k d)) (sym (get_or_append_left ls (l ∷ []) e k below))
        (subst (ChainLeads buckets (ls ++ l ∷ []) (bucket_of buckets (get_or ls k e).name) k) (sym (get_or_append_left links (head ∷ []) d k (omega (arith, below, chained.linked))))
        (lead_more buckets ls (l ∷ []) (bucket_of buckets (get_or ls k e).name) k (get_or links k d) (omega (arith, below)) (chained.goes_on k d e below)))

    last_differs : (k : ℕ) (d : Label) → k ≡ length ls → slot_of (take k (ls ++ l ∷ [])) (get_or (ls ++ l ∷ []) k d).name ≡ None
    last_differs k d e =
        let label : get_or (ls ++ l ∷ []) k d ≡ l = get_or_push ls l d k (sym e) in
        let front : take k (ls ++ l ∷ []) ≡ ls = take-append-le k ls (l ∷ []) (omega (arith, e)) ∙ take_all k ls (omega (arith, e)) in
        ap (λ (m : Label). slot_of (take k (ls ++ l ∷ [])) m.name) label ∙ ap (λ xs. slot_of xs l.name) front ∙ none

    other_differs : (k : ℕ) (d : Label) → k < length (ls ++ l ∷ []) → (k ≡ length ls → ⊥) → slot_of (take k (ls ++ l ∷ [])) (get_or (ls ++ l ∷ []) k d).name ≡ None
    other_differs k d h apart =
        let below : k < length ls = few_below k h apart in
        ap (λ (m : Label). slot_of (take k (ls ++ l ∷ [])) m.name) (get_or_append_left ls (l ∷ []) d k below) ∙ ap (λ xs. slot_of xs (get_or ls k d).name) (take-append-le k ls (l ∷ []) (omega (arith, below))) ∙ chained.differ k d below

-- ---- entries

-- what is read at an index
read_label : (es : List ChainedLabel) (k : ℕ) (e : ChainedLabel) → k < length es → e ≡ get_or es k e → get_or (map entry_label es) k (entry_label e) ≡ entry_label e
read_label es k e inside is = get_or-map entry_label es k e (entry_label e) inside ∙ ap entry_label (sym is)

read_link : (es : List ChainedLabel) (k : ℕ) (e : ChainedLabel) → k < length es → e ≡ get_or es k e → get_or (map entry_link es) k e.link ≡ e.link
read_link es k e inside is = get_or-map entry_link es k e e.link inside ∙ ap entry_link (sym is)

pub entry_below : (buckets : ℕ) (es : List ChainedLabel) (heads : List ℕ) → IsChained buckets (map entry_label es) heads (map entry_link es) → (k : ℕ) (e : ChainedLabel) → k < length es → e ≡ get_or es k e → e.link ≤ k
entry_below buckets es heads chained k e inside is =
    let below : get_or (map entry_link es) k e.link ≤ k = link_below buckets (map entry_label es) heads (map entry_link es) chained k e.link (entry_label e) (omega (arith, inside, length-map es entry_label)) in
    let link : get_or (map entry_link es) k e.link ≡ e.link = read_link es k e inside is in
    omega (arith, below, link)

-- the entry that a search has come to
pub entry_inside : (buckets : ℕ) (es : List ChainedLabel) (name : List ℕ) (at : ℕ) → Seeks buckets (map entry_label es) name at → at ≤ length es
entry_inside buckets es name at seeks = omega (arith, seeks.inside, length-map es entry_label)

pub entry_found : (buckets : ℕ) (es : List ChainedLabel) (heads : List ℕ) → IsChained buckets (map entry_label es) heads (map entry_link es) → (name : List ℕ) (at : ℕ) (e : ChainedLabel) → Seeks buckets (map entry_label es) name at → 0 < at
    → e ≡ get_or es (at - 1) e → bytes_eq e.label.name.now name ≡ true → Some e.label.slot ≡ slot_of (map entry_label es) name
entry_found buckets es heads chained name at e seeks some is same =
    let inside : at - 1 < length es = omega (arith, some, entry_inside buckets es name at seeks) in
    let label : get_or (map entry_label es) (at - 1) (entry_label e) ≡ entry_label e = read_label es (at - 1) e inside is in
    subst (λ (l : Label). Some l.slot ≡ slot_of (map entry_label es) name) label
    (seek_found buckets (map entry_label es) heads (map entry_link es) chained name at (entry_label e) seeks some (ap (λ (l : Label). bytes_eq l.name name) label ∙ same))

pub entry_passed : (buckets : ℕ) (es : List ChainedLabel) (heads : List ℕ) → IsChained buckets (map entry_label es) heads (map entry_link es) → (name : List ℕ) (at : ℕ) (e : ChainedLabel) → Seeks buckets (map entry_label es) name at → 0 < at
    → e ≡ get_or es (at - 1) e → bytes_eq e.label.name.now name ≡ false → Seeks buckets (map entry_label es) name e.link
entry_passed buckets es heads chained name at e seeks some is apart =
    let inside : at - 1 < length es = omega (arith, some, entry_inside buckets es name at seeks) in
    let label : get_or (map entry_label es) (at - 1) (entry_label e) ≡ entry_label e = read_label es (at - 1) e inside is in
    let link : get_or (map entry_link es) (at - 1) e.link ≡ e.link = read_link es (at - 1) e inside is in
    subst (Seeks buckets (map entry_label es) name) link
    (seek_on buckets (map entry_label es) heads (map entry_link es) chained name at e.link (entry_label e) seeks some (ap (λ (l : Label). bytes_eq l.name name) label ∙ apart))

pub entry_put : (es : List ChainedLabel) (heads : List ℕ) (e : ChainedLabel) → IsChained (length heads) (map entry_label es) heads (map entry_link es) → slot_of (map entry_label es) (entry_label e).name ≡ None
    → bucket_of (length heads) (entry_label e).name < length heads → ((x : ℕ) → e.link ≡ get_or heads (bucket_of (length heads) (entry_label e).name) x)
    → IsChained (length (set heads (bucket_of (length heads) (entry_label e).name) (length es + 1))) (map entry_label (es ++ e ∷ [])) (set heads (bucket_of (length heads) (entry_label e).name) (length es + 1)) (map entry_link (es ++ e ∷ []))
entry_put es heads e chained none inside is =
    let same : length (set heads (bucket_of (length heads) (entry_label e).name) (length es + 1)) ≡ length heads = length-set heads (bucket_of (length heads) (entry_label e).name) (length es + 1) in
    let more : IsChained (length heads) (map entry_label es ++ entry_label e ∷ []) (set heads (bucket_of (length heads) (entry_label e).name) (length (map entry_label es) + 1)) (map entry_link es ++ e.link ∷ [])
    = chained_more (length heads) (map entry_label es) heads (map entry_link es) (entry_label e) e.link chained none inside is in
    subst (λ n. IsChained n (map entry_label (es ++ e ∷ [])) (set heads (bucket_of (length heads) (entry_label e).name) (length es + 1)) (map entry_link (es ++ e ∷ []))) (sym same)
    (subst (λ ls. IsChained (length heads) ls (set heads (bucket_of (length heads) (entry_label e).name) (length es + 1)) (map entry_link (es ++ e ∷ []))) (sym (map-append entry_label es (e ∷ [])))
    (subst (IsChained (length heads) (map entry_label es ++ entry_label e ∷ []) (set heads (bucket_of (length heads) (entry_label e).name) (length es + 1))) (sym (map-append entry_link es (e ∷ [])))
    (subst (λ n. IsChained (length heads) (map entry_label es ++ entry_label e ∷ []) (set heads (bucket_of (length heads) (entry_label e).name) (n + 1)) (map entry_link es ++ e.link ∷ [])) (length-map es entry_label) more)))
