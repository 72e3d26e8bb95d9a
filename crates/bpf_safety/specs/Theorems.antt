-- The promises of an accepted certificate, over the machine's definitions.
use Rattle.std.specs.Prelude.{◌≡◌, ℕ, zero, suc, ◌+◌, ◌*◌, ◌≤◌, ◌<◌, ◌↔◌, ℤ, pos, ◌≤ℤ◌, List, length, take, slice_get, sum_by, Option, Some, None, option_and_then, Contains}
use Rattle.bpf_insn.specs.Instruction.{Instructions, insn_at, slots}
use Rattle.bpf_insn.specs.Image.{IsProgram}
use Rattle.bpf_insn.specs.Laws.{AreBytes}
use Rattle.bpf_semantics.specs.State as machine
use Rattle.bpf_semantics.specs.Step.{IsStuck}
use Rattle.bpf_semantics.specs.declared.reason.Reason.{Reason}
use Rattle.bpf_semantics.specs.Run.{Steps, IsDone, IsFault, CanMake}
use Rattle.bpf_semantics.specs.Flat.{Placement, FlatState, FlatStep, FlatFinish, FlatSteps}
use Rattle.bpf_semantics.specs.Placement.{IsPlacement, IsFlatStart, StaysInside}
use Rattle.bpf_state.specs.State.{AbstractState, IsAbstract}
use Rattle.bpf_safety.specs.Describes.{Describes, LengthWithin}
use Rattle.bpf_cert.specs.View.{CertificateView}
use Rattle.bpf_cert.specs.Limits.{IsCertificate}
use Rattle.bpf_safety.specs.Budget.{Budget, least_slack, Pays, HaveTagsOf}
use Rattle.bpf_safety.specs.Certified.{Certified}
use Rattle.bpf_safety.specs.Flow.{Arrival, Visit, visits, arrives, sound_arrival, passed_on}
use Rattle.bpf_safety.specs.Work.{transfers, comparisons, transferred_at, compared_at_start, compared_at}

-- a context of `least` to `most` bytes
pub record IsContext (least most : ℕ) (context : List ℕ) : Type 0 where
  pub bytes : AreBytes context
  pub length_within : LengthWithin least most context

-- ---- the machine never gets stuck, and ends in time

-- the run on the context ends with a number, after at most so many instructions
pub record EndsWithin (p : Instructions) (context : List ℕ) (bound : ℕ) : Type 0 where
  pub value : ℕ
  pub steps : ℕ
  pub in_time : steps ≤ bound
  pub done : IsDone p context value steps

-- On each such context no state that steps reach from the start is stuck, and the run ends with a number within the bound.
pub record IsSafe (p : Instructions) (least most bound : ℕ) : Type 0 where
  pub never_stuck : (context : List ℕ) (k : ℕ) (s : machine.State) → IsContext least most context → Steps p k (machine.start context) s → IsStuck p s → ⊥
  pub ends : (context : List ℕ) → IsContext least most context → EndsWithin p context bound

-- No run of a safe program is at fault, and none goes on for as many steps as its bound: it ends before.
abbrev pub SafeHasNoFault : Type 0
SafeHasNoFault =
    (p : Instructions) (least most bound : ℕ) (context : List ℕ) (slot : ℕ) (reason : Reason) (k : ℕ)
    → IsProgram p.list → IsSafe p least most bound → IsContext least most context → IsFault p context slot reason k → ⊥

abbrev pub SafeEnds : Type 0
SafeEnds = (p : Instructions) (least most bound fuel : ℕ) (context : List ℕ) → IsSafe p least most bound → IsContext least most context → bound ≤ fuel → CanMake p context fuel → ⊥

-- what a certificate certifies is safe, for its range and within its steps
abbrev pub CertifiedIsSafe : Type 0
CertifiedIsSafe = (p : Instructions) (c : CertificateView) → IsProgram p.list → IsCertificate c → Certified p c → IsSafe p c.least c.most c.steps

-- ---- what a certificate says of a slot describes each state of a run there

-- The visit of the state's instruction has an arrival, and what is known there describes the state, in whatever frame it is.
pub record IsDescribed (p : Instructions) (c : CertificateView) (m : machine.State) : Type 0 where
  pub visit : Visit
  pub is_visit : Contains (visits p c) visit
  pub slot_is : visit.slot ≡ m.top.slot
  pub insn_is : insn_at p.list m.top.slot ≡ Some visit.insn
  pub arrival : Arrival
  pub arrival_is : visit.arrival ≡ Some arrival
  pub at_label : List ℕ
  pub valid : IsAbstract arrival.state
  pub described : Describes p.order c.least c.most at_label arrival.state m

-- Each state that steps reach from the start on a context of an allowed length is described so.
abbrev pub CertifiedDescribes : Type 0
CertifiedDescribes =
    (p : Instructions) (c : CertificateView) (context : List ℕ) (k : ℕ) (m : machine.State)
    → IsProgram p.list → IsCertificate c → Certified p c → IsContext c.least c.most context → Steps p k (machine.start context) m → IsDescribed p c m

-- ---- certificates that differ in their first line alone

-- the version isn't looked at
abbrev pub VersionIsFree : Type 0
VersionIsFree = (p : Instructions) (c : CertificateView) (version : ℕ) → Certified p c ↔ Certified p (record c { version = version })

-- what is certified for a range is certified, with the same bound, for each range inside it
abbrev pub RangesInside : Type 0
RangesInside =
    (p : Instructions) (c : CertificateView) (least most : ℕ) → IsCertificate c → Certified p c
    → c.least ≤ least → least ≤ most → most ≤ c.most → Certified p (record c { least = least; most = most })

-- ---- the flat machine follows

-- the state g, j steps behind a flat start that fits, on a context on which the machine ends with v after k instructions
pub record FlatFollowsRun (p : Instructions) (place : Placement) (context : List ℕ) (v k j : ℕ) (g : FlatState) : Type 0 where
  pub not_past : j < k
  pub inside : StaysInside place (length context) p g
  pub visits_same : (s : machine.State) × Steps p j (machine.start context) s × (g.slot ≡ s.top.slot)
  pub goes_on : suc j < k → (h : FlatState) × FlatStep place p g h
  pub ends : suc j ≡ k → FlatFinish p g v × ((h : FlatState) → FlatStep place p g h → ⊥)

-- wherever context and frames lie and whatever else memory holds, each run of the flat machine follows each run that ends
abbrev pub IsFlatSafe : Instructions → ℕ → ℕ → Type 0
IsFlatSafe p least most =
    (context : List ℕ) (place : Placement) (f g : FlatState) (v k j : ℕ) → IsContext least most context → IsPlacement (length context) place → IsFlatStart p.order place context f
    → IsDone p context v k → FlatSteps place p j f g → FlatFollowsRun p place context v k j g

-- for every program: the flat machine follows wherever the machine ends
abbrev pub ProgramIsFlatSafe : Type 0
ProgramIsFlatSafe = (p : Instructions) (least most : ℕ) → IsProgram p.list → IsFlatSafe p least most

abbrev pub CertifiedIsFlatSafe : Type 0
CertifiedIsFlatSafe = (p : Instructions) (c : CertificateView) → IsProgram p.list → IsCertificate c → Certified p c → IsFlatSafe p c.least c.most

-- ---- budgets: the least slack is at the ends of the intervals

abbrev pub SlackIsLeast : Type 0
SlackIsLeast =
    (old new : Budget) (at_label edge : AbstractState) (cost slack : ℤ)
    → IsAbstract at_label → IsAbstract edge → HaveTagsOf (length old.terms) edge new.terms
    → least_slack old at_label cost edge new ≡ Some slack
    → (pos 0 ≤ℤ slack) ↔ Pays old at_label cost edge new

-- ---- work

-- of a certified program the visits make a transfer each, and the start and the visits make its comparisons
pub record WorkIs (p : Instructions) (c : CertificateView) : Type 0 where
  pub transferred : sum_by transferred_at (visits p c) ≡ transfers p
  pub compared : compared_at_start c + sum_by (compared_at p c) (visits p c) ≡ comparisons p c

abbrev pub CertifiedWork : Type 0
CertifiedWork = (p : Instructions) (c : CertificateView) → IsCertificate c → Certified p c → WorkIs p c

-- at most two comparisons an instruction, and one
abbrev pub ComparisonsAreFew : Type 0
ComparisonsAreFew = (p : Instructions) (c : CertificateView) → comparisons p c ≤ 2 * transfers p + 1

-- ---- the visits: one at each instruction, with its label's state or with what the visit before passes on

abbrev pub passes : Instructions → CertificateView → Visit → Option Arrival
passes p c v = option_and_then (passed_on p c v.slot v.insn) (sound_arrival c v.insn v.arrival)

abbrev pub passed_before : Instructions → CertificateView → ℕ → Option Arrival
passed_before p c zero = None
passed_before p c (suc k) = option_and_then (passes p c) (slice_get (visits p c) k)

-- the visit of the instruction k
pub record IsVisit (p : Instructions) (c : CertificateView) (k : ℕ) (v : Visit) : Type 0 where
  pub insn_is : slice_get p.list k ≡ Some v.insn
  pub slot_is : v.slot ≡ slots (take k p.list)
  pub arrival_is : v.arrival ≡ arrives c v.slot (passed_before p c k)

abbrev pub VisitsAreAssigned : Type 0
VisitsAreAssigned = (p : Instructions) (c : CertificateView) → (length (visits p c) ≡ length p.list) × ((k : ℕ) (v : Visit) → slice_get (visits p c) k ≡ Some v → IsVisit p c k v)
