-- The calls that wait while a function runs: what each caller had at its call, and that its r6 to r10, its counters and the lowest bytes of its frame
-- stay as they were.
use Rattle.std.proofs.Common.{◌≡◌, ℕ, zero, suc, ◌+◌, ◌^◌, ◌<◌, ◌≤◌, ◌==◌, ◌⊎◌, inl, inr, refl, sym, ap, ◌∙◌, subst, arith, Bool, true, false, List, [], ◌∷◌, length, Option, Some, None, cond}
use Rattle.std.specs.Prelude.{◌&&◌, drop, ltb}
use Rattle.std.specs.List.{list_all}
use Rattle.std.specs.Option.{option_map_or}
use Rattle.std.proofs.lemmas.Bool.{cond-false, and_parts, cases_order, eqb-true, le-ltb, false≢true}
use Rattle.std.proofs.lemmas.Option.{same_Some}
use Rattle.bpf_insn.specs.Limits.{max_frames}
use Rattle.bpf_semantics.specs.Flat.{Placement, Return, FlatState, IsAmong, addresses, frame_start}
use Rattle.bpf_kept.specs.Far.{near_gap, wide_gap, near, wide}
use Rattle.bpf_kept.specs.Zero.{zero_start, zero_after}
use Rattle.bpf_kept.specs.Meaning.{counted, turns_to, turns_in_call}
use Rattle.bpf_kept.specs.declared.notes.Holder.TheVariants.{Register}
use Rattle.bpf_kept.specs.declared.notes.Note.{Note}
use Rattle.bpf_kept.specs.declared.notes.Change.TheVariants.{Kept}
use Rattle.bpf_insn.specs.declared.instruction.Reg.TheVariants.{R0}
use Rattle.bpf_kept.specs.Terms.{Packet, Facts, Values, IsWaiting, IsSeen, Holds, AllHold, value_in}
use Rattle.bpf_kept.specs.Rules.{Known}
use Rattle.bpf_kept.specs.Behind.{holds_behind, by_itself}
use Rattle.bpf_kept.specs.Calls.{is_result, is_this, known_returned, apart_waits}
use Rattle.bpf_kept.specs.Counters.{AllCount, is_turn_of}
use Rattle.bpf_kept.specs.Matching.{most_extras, known_at, arrives, keeps_back}
use Rattle.bpf_kept.proofs.HoldsLaw.{IsHigh, all_of}
use Rattle.bpf_state.specs.State.{AbstractState}
use Rattle.bpf_kept.proofs.PutLaw.{AtOnce}
use Rattle.bpf_kept.proofs.ExtraLaw.{kept_hold}
use Rattle.bpf_kept.proofs.CountLaw.{Advances}
use Rattle.bpf_kept.proofs.LevelLaw.{IsLaid, near_laid, wide_laid, roomy_at, lies_above}
use Rattle.bpf_kept.proofs.Setting.{Setting, starts_below}
use Rattle.bpf_kept.proofs.Beside.{old, new, near_own, wide_own, near_packet, wide_packet, OldAt, made_before, left}

-- ---- what a function gives back

pub this_is : (o : Option ℕ) (n : ℕ) → is_this o n ≡ true → o ≡ Some n
this_is None n e = absurd (false≢true e)
this_is (Some m) n e = ap Some (eqb-true m n e)

-- what holds of its result, and what it never is
pub record Promise : Type 0 where
  pub back : Facts
  pub spare : Option ℕ

abbrev pub promise_of : Note → Promise
promise_of note = record { back = note.back; spare = note.spare }

-- one gives what is wanted by another, wherever the frame begins
pub record Promises (have want : Promise) : Type 0 where
  pub holds : (own : ℕ) (v w : Values) → IsHigh own → v None ≡ 0 → w None ≡ 0 → AllHold own v w have.back → AllHold own v w want.back
  pub never : (n : ℕ) → want.spare ≡ Some n → have.spare ≡ Some n

pub itself_promises : (p : Promise) → Promises p p
itself_promises p = record { holds = λ own v w high none none' all. all; never = λ n e. e }

pub then_promises : (a b c : Promise) → Promises a b → Promises b c → Promises a c
then_promises a b c p q = record { holds = λ own v w high none none' all. q.holds own v w high none none' (p.holds own v w high none none' all); never = λ n e. p.never n (q.never n e) }

pub note_promises : (known : Known) (note : Note) → keeps_back known note ≡ true → Promises (promise_of note) (record { back = known.back; spare = known.spare })
note_promises known note e =
    let c = and_parts (list_all (holds_behind note.back Kept) known.back) (option_map_or (is_this note.spare) known.spare true) e in
    record {
      holds = λ own v w high none none' all. all_of (holds_behind note.back Kept) (Holds own v w) known.back c.0 (λ want h. kept_hold own note.back high v w want none none' all h);
      never = λ n es. this_is note.spare n (ap (λ o. option_map_or (is_this note.spare) o true) (sym es) ∙ c.1);
    }

-- with r0 the run ends
abbrev pub last_promise : Promise
last_promise = record { back = by_itself (Register R0) ∷ []; spare = None }

-- ---- callers

abbrev pub return_of : FlatState → Return
return_of f = record { slot = f.slot + 1; saved = drop 6 f.registers }

-- the lowest bytes of a frame are what they were
abbrev pub IsLeft : ℕ → ℕ → (ℕ → ℕ) → (ℕ → ℕ) → Type 0
IsLeft start left then now = (a : ℕ) → IsAmong start left a → a < start + 512 → now a ≡ then a

-- A call, for which a caller waits that had these states there. The function gives back at least what is wanted.
pub record Caller (given : Setting) (deep j : ℕ) (back promise : Promise) (rn rv qn qw : Return) (mn mw wn ww : ℕ → ℕ) : Type 0 where
  pub note : Note
  pub state : Option AbstractState
  pub fn : FlatState
  pub fw : FlatState
  pub gn : FlatState
  pub gw : FlatState
  pub promises : Promises (promise_of note) promise
  pub near_at : AtOnce given.order (near_own given deep) (near_packet given deep) (known_at (new given) given.bounds state note) fn gn
  pub wide_at : AtOnce given.order (wide_own given deep) (wide_packet given deep) (known_at (new given) given.bounds state note) fw gw
  pub low : apart_waits (known_at (new given) given.bounds state note) ≡ true
  pub results : list_all is_result back.back ≡ true
  pub leads : arrives given.notes (known_returned (known_at (new given) given.bounds state note) back.back back.spare) Kept (Some fn.slot) (fn.slot + 1) most_extras (gn.slot + 1) ≡ true
  pub slots_same : fw.slot ≡ fn.slot
  pub new_slots_same : gw.slot ≡ gn.slot
  pub near_return : rn ≡ return_of fn
  pub wide_return : rv ≡ return_of fw
  pub new_near_return : qn ≡ return_of gn
  pub new_wide_return : qw ≡ return_of gw
  pub near_left : IsLeft (near_own given deep) (left given deep) fn.memory mn
  pub wide_left : IsLeft (wide_own given deep) (left given deep) fw.memory mw
  pub new_near_left : IsLeft (near_own given deep) (left given deep) gn.memory wn
  pub new_wide_left : IsLeft (wide_own given deep) (left given deep) gw.memory ww
  pub made : ℕ → ℕ
  pub counted : AllCount given.bounds.turns made (value_in given.order (near_own given deep) (near_packet given deep) gn) note.counters
  pub turned : Advances (Some fn.slot) made (made_before given deep j)

-- All calls that wait, the nearest first: what the one that runs is to give back, and by what is kept of each. The outermost one ends the run with r0.
abbrev pub Waits : Setting → ℕ → ℕ → Promise → List Return → List Return → List Return → List Return → (ℕ → ℕ) → (ℕ → ℕ) → (ℕ → ℕ) → (ℕ → ℕ) → Type 0
Waits given zero j back rns rws qns qws mn mw wn ww = Promises back last_promise
Waits given (suc n) j back (rn ∷ rns) (rv ∷ rws) (qn ∷ qns) (qw ∷ qws) mn mw wn ww = (promise : Promise) × Caller given n j back promise rn rv qn qw mn mw wn ww × Waits given n j promise rns rws qns qws mn mw wn ww
Waits given (suc n) j back rns rws qns qws mn mw wn ww = ⊥

abbrev pub WaitsAt : Setting → ℕ → ℕ → Promise → FlatState → FlatState → FlatState → FlatState → Type 0
WaitsAt given deep j back fn fw gn gw = Waits given deep j back fn.returns fw.returns gn.returns gw.returns fn.memory fw.memory gn.memory gw.memory

-- ---- they stay

-- memories in which the lowest bytes of the frames below are the same
abbrev pub StayBelow : Placement → ℕ → ℕ → (ℕ → ℕ) → (ℕ → ℕ) → Type 0
StayBelow place left top m n = (k : ℕ) → k < top → (a : ℕ) → IsAmong (frame_start place k) left a → a < frame_start place k + 512 → n a ≡ m a

pub record Stay (given : Setting) (top j j' : ℕ) (mn mw wn ww mn' mw' wn' ww' : ℕ → ℕ) : Type 0 where
  pub old_near : StayBelow (near false) (left given top) top mn mn'
  pub old_wide : StayBelow (wide false) (left given top) top mw mw'
  pub new_near : StayBelow (near false) (left given top) top wn wn'
  pub new_wide : StayBelow (wide false) (left given top) top ww ww'
  pub turns : (k head : ℕ) → k < top → made_before given k j' head ≡ made_before given k j head

pub waits_on : (given : Setting) (top deep j j' : ℕ) (back : Promise) (rns rws qns qws : List Return) (mn mw wn ww mn' mw' wn' ww' : ℕ → ℕ) → deep ≤ top → Stay given top j j' mn mw wn ww mn' mw' wn' ww' → Waits given deep j back rns rws qns qws mn mw wn ww → Waits given deep j' back rns rws qns qws mn' mw' wn' ww'
waits_on given top zero j j' back rns rws qns qws mn mw wn ww mn' mw' wn' ww' le stay w = w
waits_on given top (suc n) j j' back (rn ∷ rns) (rv ∷ rws) (qn ∷ qns) (qw ∷ qws) mn mw wn ww mn' mw' wn' ww' le stay w =
    let c = w.1 in (
      w.0,
      record {
        note = c.note;
        state = c.state;
        fn = c.fn;
        fw = c.fw;
        gn = c.gn;
        gw = c.gw;
        promises = c.promises;
        near_at = c.near_at;
        wide_at = c.wide_at;
        low = c.low;
        results = c.results;
        leads = c.leads;
        slots_same = c.slots_same;
        new_slots_same = c.new_slots_same;
        near_return = c.near_return;
        wide_return = c.wide_return;
        new_near_return = c.new_near_return;
        new_wide_return = c.new_wide_return;
        near_left = λ a among lt. stay.old_near n le a among lt ∙ c.near_left a among lt;
        wide_left = λ a among lt. stay.old_wide n le a among lt ∙ c.wide_left a among lt;
        new_near_left = λ a among lt. stay.new_near n le a among lt ∙ c.new_near_left a among lt;
        new_wide_left = λ a among lt. stay.new_wide n le a among lt ∙ c.new_wide_left a among lt;
        made = c.made;
        counted = c.counted;
        turned = λ head. subst (λ m. c.made head + cond (is_turn_of (Some c.fn.slot) head) 1 0 ≤ m) (sym (stay.turns n head le)) (c.turned head);
      },
      waits_on given top n j j' w.0 rns rws qns qws mn mw wn ww mn' mw' wn' ww' (omega arith) stay w.2,
    )
waits_on given top (suc n) j j' back [] rws qns qws mn mw wn ww mn' mw' wn' ww' le stay w = absurd w
waits_on given top (suc n) j j' back (rn ∷ rns) [] qns qws mn mw wn ww mn' mw' wn' ww' le stay w = absurd w
waits_on given top (suc n) j j' back (rn ∷ rns) (rv ∷ rws) [] qws mn mw wn ww mn' mw' wn' ww' le stay w = absurd w
waits_on given top (suc n) j j' back (rn ∷ rns) (rv ∷ rws) (qn ∷ qns) [] mn mw wn ww mn' mw' wn' ww' le stay w = absurd w

-- ---- what the function that runs comes to

-- none of these bytes
lowest_unseen : (place : Placement) (gap left top k a : ℕ) (packet : Packet) → IsLaid place gap → top < max_frames → 2 ^ 63 ≤ packet.first → packet.waiting ≡ starts_below place top → packet.left ≡ left → k < top → IsAmong (frame_start place k) left a → a < frame_start place k + 512 → IsSeen (frame_start place top) packet a → ⊥
lowest_unseen place gap left top k a packet laid few first waiting left_is less among lt (inl given) =
    let from = given.0 in
    let room = (roomy_at place gap k laid (omega arith)).to in
    absurd (omega arith)
lowest_unseen place gap left top k a packet laid few first waiting left_is less among lt (inr (inl own)) =
    let from = own.0 in
    let above = lies_above place gap k top laid less few in
    absurd (omega arith)
lowest_unseen place gap left top k a packet laid few first waiting left_is less among lt (inr (inr waits)) =
    by_start top (omega arith) (subst (λ l. IsWaiting l (starts_below place top) a) left_is (subst (λ ss. IsWaiting packet.left ss a) waiting waits))
  where
    by_order : (n : ℕ) → n < max_frames → frame_start place n + left ≤ a → a < frame_start place n + 512 → (n ≡ k) ⊎ ((n < k) ⊎ (k < n)) → ⊥
    by_order n small low high (inl same) = let to = among.1 in let here : frame_start place k + left ≤ a = subst (λ m. frame_start place m + left ≤ a) same low in omega arith
    by_order n small low high (inr (inl before)) = let from = among.0 in let above = lies_above place gap n k laid before (omega arith) in omega arith
    by_order n small low high (inr (inr after)) = let above = lies_above place gap k n laid after small in omega arith

    by_start : (n : ℕ) → n ≤ top → IsWaiting left (starts_below place n) a → ⊥
    by_start zero le w = w
    by_start (suc n) le (inl here) = by_order n (omega arith) here.0 here.1 (cases_order n k)
    by_start (suc n) le (inr later) = by_start n (omega arith) later

-- the bytes that it doesn't come to stay
pub near_below : (given : Setting) (top : ℕ) (f g : FlatState) → top < max_frames → ((a : ℕ) → a < addresses → (IsSeen (near_own given top) (near_packet given top) a → ⊥) → g.memory a ≡ f.memory a) → StayBelow (near false) (left given top) top f.memory g.memory
near_below given top f g few unseen k less a among lt =
    let room = (roomy_at (near false) near_gap k (near_laid false) (omega arith)).to in
    unseen a (omega arith) (λ seen. lowest_unseen (near false) near_gap (left given top) top k a (near_packet given top) (near_laid false) few (omega arith) refl refl less among lt seen)

pub wide_below : (given : Setting) (top : ℕ) (f g : FlatState) → top < max_frames → ((a : ℕ) → a < addresses → (IsSeen (wide_own given top) (wide_packet given top) a → ⊥) → g.memory a ≡ f.memory a) → StayBelow (wide false) (left given top) top f.memory g.memory
wide_below given top f g few unseen k less a among lt =
    let room = (roomy_at (wide false) wide_gap k (wide_laid false) (omega arith)).to in
    unseen a (omega arith) (λ seen. lowest_unseen (wide false) wide_gap (left given top) top k a (wide_packet given top) (wide_laid false) few (omega arith) refl refl less among lt seen)

-- ---- turns

-- a state with as many frames counts
as_deep : (deep k : ℕ) (f : FlatState) (head before : ℕ) → k ≤ deep → length f.returns ≡ deep → turns_to head k (Some f) before ≡ counted head k f + before
as_deep deep k f head before le count = cond-false (ltb (length f.returns) k) 0 (counted head k f + before) (le-ltb (length f.returns) k (omega arith))

-- with more of them it doesn't
none : (deep k : ℕ) (f : FlatState) (head : ℕ) → k < deep → length f.returns ≡ deep → counted head k f ≡ 0
none deep k f head less count = cond-false (f.slot == head && length f.returns == k) 1 0 (fails (f.slot == head) (differ (length f.returns == k) refl))
  where
    differ : (b : Bool) → length f.returns == k ≡ b → length f.returns == k ≡ false
    differ false e = e
    differ true e = let same = eqb-true (length f.returns) k e in absurd (omega arith)

    fails : (a : Bool) → {b : Bool} → b ≡ false → (a && b) ≡ false
    fails true e = e
    fails false e = refl

-- the turns of a call that are made behind a state, with as many frames or more
pub turn_made : (given : Setting) (deep k j : ℕ) (fn fw : FlatState) → k ≤ deep → OldAt given deep j fn fw → (head : ℕ) → made_before given k (suc j) head ≡ counted head k fn + made_before given k j head
unfolding turns_in_call zero_after
turn_made given deep k zero fn fw le o head =
    let first : zero_start (near given.bounds.padded) given.own ≡ fn = same_Some (zero_start (near given.bounds.padded) given.own) fn o.near_run in
    subst (λ f. turns_to head k (Some f) 0 ≡ counted head k fn + 0) (sym first) (as_deep deep k fn head 0 le o.near_deep)
turn_made given deep k (suc j) fn fw le o head =
    let before : ℕ = turns_in_call (near given.bounds.padded) (old given) (zero_start (near given.bounds.padded) given.own) head k j in
    ap (λ o. turns_to head k o before) o.near_run ∙ as_deep deep k fn head before le o.near_deep

-- a call that waits makes none
pub waiting_made : (given : Setting) (deep k j : ℕ) (fn fw : FlatState) → k < deep → OldAt given deep j fn fw → (head : ℕ) → made_before given k (suc j) head ≡ made_before given k j head
waiting_made given deep k j fn fw less o head = let made = turn_made given deep k j fn fw (omega arith) o head in let no_turn = none deep k fn head less o.near_deep in omega arith

-- ---- steps of the function that runs

-- the same bytes stay to which it doesn't come, and as many wait
pub record Stays (own : ℕ) (packet : Packet) (f g : FlatState) : Type 0 where
  pub returns : g.returns ≡ f.returns
  pub unseen : (a : ℕ) → a < addresses → (IsSeen own packet a → ⊥) → g.memory a ≡ f.memory a

pub stands_there : (own : ℕ) (packet : Packet) (f : FlatState) → Stays own packet f f
stands_there own packet f = record { returns = refl; unseen = λ a small out. refl }

renamed : (given : Setting) (deep j : ℕ) (back : Promise) (rn rv qn qw rn' rv' qn' qw' : List Return) (mn mw wn ww : ℕ → ℕ) → rn' ≡ rn → rv' ≡ rv → qn' ≡ qn → qw' ≡ qw → Waits given deep j back rn rv qn qw mn mw wn ww → Waits given deep j back rn' rv' qn' qw' mn mw wn ww
renamed given deep j back rn rv qn qw rn' rv' qn' qw' mn mw wn ww en ew fn fw w =
    subst (λ rn. Waits given deep j back rn rv' qn' qw' mn mw wn ww) (sym en) (subst (λ rv. Waits given deep j back rn rv qn' qw' mn mw wn ww) (sym ew)
    (subst (λ qn. Waits given deep j back rn rv qn qw' mn mw wn ww) (sym fn) (subst (λ qw. Waits given deep j back rn rv qn qw mn mw wn ww) (sym fw) w)))

-- an extra instruction
pub extra_waits : (given : Setting) (deep j : ℕ) (back : Promise) (fn fw gn gw hn hw : FlatState) → deep < max_frames → Stays (near_own given deep) (near_packet given deep) gn hn → Stays (wide_own given deep) (wide_packet given deep) gw hw → WaitsAt given deep j back fn fw gn gw → WaitsAt given deep j back fn fw hn hw
extra_waits given deep j back fn fw gn gw hn hw few near_stays wide_stays w =
    waits_on given deep deep j j back fn.returns fw.returns hn.returns hw.returns fn.memory fw.memory gn.memory gw.memory fn.memory fw.memory hn.memory hw.memory (omega arith)
    (record {
      old_near = λ k less a among lt. refl;
      old_wide = λ k less a among lt. refl;
      new_near = near_below given deep gn hn few near_stays.unseen;
      new_wide = wide_below given deep gw hw few wide_stays.unseen;
      turns = λ k head less. refl;
    })
    (renamed given deep j back fn.returns fw.returns gn.returns gw.returns fn.returns fw.returns hn.returns hw.returns fn.memory fw.memory gn.memory gw.memory refl refl near_stays.returns wide_stays.returns w)

-- one of each
pub step_waits : (given : Setting) (deep j : ℕ) (back : Promise) (fn fw gn gw hn hw kn kw : FlatState) → OldAt given deep j fn fw → Stays (near_own given deep) (near_packet given deep) fn hn → Stays (wide_own given deep) (wide_packet given deep) fw hw → Stays (near_own given deep) (near_packet given deep) gn kn → Stays (wide_own given deep) (wide_packet given deep) gw kw
    → WaitsAt given deep j back fn fw gn gw → WaitsAt given deep (suc j) back hn hw kn kw
step_waits given deep j back fn fw gn gw hn hw kn kw o an aw bn bw w =
    waits_on given deep deep j (suc j) back hn.returns hw.returns kn.returns kw.returns fn.memory fw.memory gn.memory gw.memory hn.memory hw.memory kn.memory kw.memory (omega arith)
    (record {
      old_near = near_below given deep fn hn o.shallow an.unseen;
      old_wide = wide_below given deep fw hw o.shallow aw.unseen;
      new_near = near_below given deep gn kn o.shallow bn.unseen;
      new_wide = wide_below given deep gw kw o.shallow bw.unseen;
      turns = λ k head less. waiting_made given deep k j fn fw less o head;
    })
    (renamed given deep j back fn.returns fw.returns gn.returns gw.returns hn.returns hw.returns kn.returns kw.returns fn.memory fw.memory gn.memory gw.memory an.returns aw.returns bn.returns bw.returns w)
