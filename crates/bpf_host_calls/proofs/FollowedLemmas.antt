-- What notes and a certificate show of two images, or why they don't; and images that are hardened.
use Rattle.std.proofs.Common.{◌≡◌, ℕ, List, Bool, false, subst, inl, inr}
use Rattle.bpf_insn.specs.Instruction.{Instructions}
use Rattle.bpf_insn.specs.Image.{IsImage, IsProgram, image}
use Rattle.bpf_insn.specs.Laws.{IsImageOfProgram}
use Rattle.bpf_insn.specs.declared.order.Order.{Order}
use Rattle.bpf_cert.specs.View.{CertificateView}
use Rattle.bpf_cert.specs.Certificates.{Spells}
use Rattle.bpf_safety.specs.Certified.{IsLeastFlaw}
use Rattle.bpf_check.specs.CheckedProgram.{IsCertifiedBy}
use Rattle.bpf_check.specs.RefusalNumbers.{refusal_slot, refusal_number}
use Rattle.bpf_check.specs.Verdicts.{HasFlaw, program_in}
use Rattle.bpf_check.specs.declared.refusal.Refusal.{Refusal}
use Rattle.bpf_kept.specs.Matching.{Notes, shown_turns}
use Rattle.bpf_kept.specs.Mismatches.{MatchesBeside, IsMismatch}
use Rattle.bpf_kept.specs.Shown.{Keeps}
use Rattle.bpf_kept.specs.declared.bounds.Bounds.{Bounds}
use Rattle.bpf_kept.specs.declared.mismatch.Mismatch.{Mismatch}
use Rattle.bpf_follows.specs.NotesText.{notes_text}
use Rattle.bpf_host_calls.specs.declared.answers.BpfRefusal.{BpfRefusal}
use Rattle.bpf_host_calls.specs.declared.host_advice_asked.BpfFollowing.{BpfFollowing}
use Rattle.bpf_host_calls.specs.Told.{TellsCheck}
use Rattle.bpf_host_calls.specs.ToldAdvice.{TellsMatch}
use Rattle.bpf_host_calls.specs.Followed.{AreJudged, IsFollowed, IsNotFollowed, following_of}
use Rattle.bpf_host_calls.specs.Hardened.{IsKeptBy, IsHardenedAs}
use Rattle.bpf_host_calls.proofs.ImageLemmas.{image_of, in_order}

-- ---- a program that was read from an image

pub record IsReadFrom (order : Order) (bytes : List ℕ) (p : Instructions) : Type 0 where
  pub is_image : IsImageOfProgram order bytes p.list
  pub order_is : p.order ≡ order

pub read_from : (order : Order) (bytes : List ℕ) (p : Instructions) → IsImage order p.list bytes → p.order ≡ order → IsProgram p.list → IsReadFrom order bytes p
read_from order bytes p im same program = record { is_image = image_of order bytes p im program; order_is = same }

-- what holds of both programs holds of them in the order in which they were read
both_in_order : (order : Order) (old new : List ℕ) (p q : Instructions) (Holds : Instructions → Instructions → Type 0) → IsReadFrom order old p → IsReadFrom order new q → Holds p q → Holds (program_in order p.list) (program_in order q.list)
both_in_order order old new p q Holds old_read new_read holds =
    subst (λ o. Holds o (program_in order q.list)) (in_order order p old_read.order_is) (subst (λ n. Holds p n) (in_order order q new_read.order_is) holds)

-- ---- what is judged

are_judged : (order : Order) (old new notes text : List ℕ) (p q : Instructions) (runs : Bounds) (noted : Notes) (c : CertificateView) → IsReadFrom order old p → IsReadFrom order new q → notes ≡ notes_text runs noted → Spells text c → IsCertifiedBy q c → AreJudged order old new notes text
are_judged order old new notes text p q runs noted c old_read new_read notes_are spelled certified =
    record {
      program = p.list;
      is_old = old_read.is_image;
      made = q.list;
      is_new = new_read.is_image;
      runs = runs;
      noted = noted;
      notes_are = notes_are;
      certificate = c;
      spelled = spelled;
      certified = subst (λ n. IsCertifiedBy n c) (in_order order q new_read.order_is) certified;
    }

-- ---- what is shown

pub followed_by : (order : Order) (old new notes text : List ℕ) (p q : Instructions) (runs : Bounds) (noted : Notes) (c : CertificateView) (told : BpfFollowing) → IsReadFrom order old p → IsReadFrom order new q → notes ≡ notes_text runs noted → Spells text c → IsCertifiedBy q c → MatchesBeside p q noted c runs → Keeps p q noted runs → told ≡ following_of runs (shown_turns noted runs.turns) c.steps → IsFollowed order old new notes text told
unfolding are_judged
followed_by order old new notes text p q runs noted c told old_read new_read notes_are spelled certified matches keeps told_is =
    record {
      judged = are_judged order old new notes text p q runs noted c old_read new_read notes_are spelled certified;
      matches = both_in_order order old new p q (λ o n. MatchesBeside o n noted c runs) old_read new_read matches;
      keeps = both_in_order order old new p q (λ o n. Keeps o n noted runs) old_read new_read keeps;
      told_is = told_is;
    }

-- ---- what isn't

has_flaw : (order : Order) (new text : List ℕ) (q : Instructions) (c : CertificateView) (r : Refusal) → IsReadFrom order new q → Spells text c → IsLeastFlaw q c (refusal_slot r) (refusal_number r) → HasFlaw order new text r
has_flaw order new text q c r new_read spelled flaw =
    record {
      program = q.list;
      is_image = new_read.is_image;
      certificate = c;
      spelled = spelled;
      least = subst (λ n. IsLeastFlaw n c (refusal_slot r) (refusal_number r)) (in_order order q new_read.order_is) flaw;
    }

pub flawed : (order : Order) (old new notes text : List ℕ) (p q : Instructions) (runs : Bounds) (noted : Notes) (c : CertificateView) (r : Refusal) (told : BpfRefusal) → IsReadFrom order old p → IsReadFrom order new q → notes ≡ notes_text runs noted → Spells text c → IsLeastFlaw q c (refusal_slot r) (refusal_number r) → TellsCheck r told → IsNotFollowed order old new notes text told
flawed order old new notes text p q runs noted c r told old_read new_read notes_are spelled flaw tells =
    inr (inr (inr (inr (inl ((p.list, old_read.is_image), (runs, noted, notes_are), (r, has_flaw order new text q c r new_read spelled flaw, tells))))))

pub mismatched : (order : Order) (old new notes text : List ℕ) (p q : Instructions) (runs : Bounds) (noted : Notes) (c : CertificateView) (m : Mismatch) (told : BpfRefusal) → IsReadFrom order old p → IsReadFrom order new q → notes ≡ notes_text runs noted → Spells text c → IsCertifiedBy q c → IsMismatch p q noted c runs m → TellsMatch m told → IsNotFollowed order old new notes text told
unfolding are_judged
mismatched order old new notes text p q runs noted c m told old_read new_read notes_are spelled certified fails tells =
    inr (inr (inr (inr (inr (record {
      judged = are_judged order old new notes text p q runs noted c old_read new_read notes_are spelled certified;
      mismatch = m;
      fails = both_in_order order old new p q (λ o n. IsMismatch o n noted c runs m) old_read new_read fails;
      tells = tells;
    })))))

-- ---- what is hardened

pub hardened_as : (order : Order) (given : List ℕ) (bounds : Bounds) (unproved : Bool) (p made : Instructions) (bytes : List ℕ) → IsImage order p.list given → p.order ≡ order → IsProgram p.list → IsProgram made.list → bytes ≡ image made.order made.list → (unproved ≡ false → IsKeptBy p made bounds) → IsHardenedAs order given bounds unproved bytes
hardened_as order given bounds unproved p made bytes is_given given_order given_program made_program bytes_are keeps =
    record {
      program = p.list;
      is_image = image_of order given p is_given given_program;
      made = made;
      is_made = record { program = made_program; bytes_are = bytes_are };
      keeps = λ e. subst (λ o. IsKeptBy o made bounds) (in_order order p given_order) (keeps e);
    }
