-- What a certificate claims is told, where it certifies.
use Rattle.std.proofs.Common.{◌≡◌, ◌≢◌, ◌⊎◌, ◌≤◌, ◌<◌, ℕ, List, ℤ, pos, negsuc, Result, Ok, Err, IsOk, IfOk, IsOkAnd, IsErrAnd, MatchResult, ap, ◌∙◌, inl, inr, arith}
use Rattle.bpf_cert.specs.View.{CertificateView}
use Rattle.std.proofs.lemmas.Bool.{false≢true}
use Rattle.bpf_insn.specs.Laws.{IsImageOfProgram}
use Rattle.bpf_insn.specs.declared.order.Order.{Order}
use Rattle.bpf_insn.specs.declared.instruction.Insn.{Insn}
use Rattle.bpf_check.specs.Verdicts.{Verified, Promises, Certifies, IsUnread}
use Rattle.bpf_check.specs.declared.verifier.Verdict.{Verdict}
use Rattle.bpf_check.specs.declared.verifier.VerifyError.{VerifyError}
use Rattle.bpf_host_calls.specs.Told.{IsVerdictOf, TellsVerdict, TellsRefusal}
use Rattle.bpf_host_calls.specs.declared.answers.BpfVerdict.{BpfVerdict}
use Rattle.bpf_host_calls.specs.declared.answers.BpfRefusal.{BpfRefusal}

abbrev Judged : Type 0
Judged = Result Verdict VerifyError

-- a verdict is told
abbrev IsYes : Judged → BpfVerdict → Type 0
IsYes j told = IsOkAnd j (λ v. TellsVerdict v told)

-- a refusal is told
abbrev IsNo : Judged → BpfRefusal → Type 0
IsNo j told = IsErrAnd j (λ e. TellsRefusal e told × ¬ (IsUnread e))

-- what is judged where a certificate certifies
abbrev Claims : Judged → CertificateView → Type 0
Claims j c = MatchResult j (λ v. (v.least ≡ c.least) × (v.most ≡ c.most) × (v.bound ≡ c.steps)) IsUnread

claimed : (v : Verdict) (told : BpfVerdict) (c : CertificateView) → TellsVerdict v told → (v.least ≡ c.least) × (v.most ≡ c.most) × (v.bound ≡ c.steps) → IsVerdictOf c told
claimed v told c is says = (ap (λ t. t.least) is ∙ says.0, ap (λ t. t.most) is ∙ says.1, ap (λ t. t.bound) is ∙ says.2)

pub accepted : (j : Judged) (r : ℤ) (told : BpfVerdict) (why : BpfRefusal) (c : CertificateView) → Claims j c → (r ≡ pos 1 → IsYes j told) → (r ≡ pos 0 → IsNo j why) → (r ≡ pos 1) ⊎ (r ≡ pos 0) ⊎ (r ≡ negsuc 0) → ((r ≡ pos 1) × IsVerdictOf c told) ⊎ (r ≡ negsuc 0)
accepted (Ok v) r told why c says told_yes told_no (inl is) = inl (is, claimed v told c (told_yes is) says)
accepted (Ok v) r told why c says told_yes told_no (inr (inl is)) = absurd (told_no is)
accepted (Ok v) r told why c says told_yes told_no (inr (inr is)) = inr is
accepted (Err e) r told why c says told_yes told_no (inl is) = absurd (told_yes is)
accepted (Err e) r told why c says told_yes told_no (inr (inl is)) = absurd ((told_no is).1 says)
accepted (Err e) r told why c says told_yes told_no (inr (inr is)) = inr is

-- the answers of `load` but that the call is bad: yes, no, no memory, too small, too long
abbrev IsLoadAnswer : ℤ → Type 0
IsLoadAnswer r = (r ≡ pos 1) ⊎ (r ≡ pos 0) ⊎ (r ≡ negsuc 0) ⊎ (r ≡ negsuc 2) ⊎ (r ≡ negsuc 3)

-- a handle, or too long, or no memory
abbrev IsKept : ℤ → BpfVerdict → CertificateView → Type 0
IsKept r told c = (((r ≡ pos 1) ⊎ (r ≡ negsuc 3)) × IsVerdictOf c told) ⊎ (r ≡ negsuc 0)

kept : (j : Judged) (r : ℤ) (told : BpfVerdict) (why : BpfRefusal) (c : CertificateView) → Claims j c → ((r ≡ pos 1) ⊎ (r ≡ negsuc 3) → IsYes j told) → (r ≡ pos 0 → IsNo j why) → (r ≢ negsuc 2) → IsLoadAnswer r → IsKept r told c
kept (Ok v) r told why c says told_yes told_no small (inl is) = inl (inl is, claimed v told c (told_yes (inl is)) says)
kept (Ok v) r told why c says told_yes told_no small (inr (inl is)) = absurd (told_no is)
kept (Ok v) r told why c says told_yes told_no small (inr (inr (inl is))) = inr is
kept (Ok v) r told why c says told_yes told_no small (inr (inr (inr (inl is)))) = absurd (small is)
kept (Ok v) r told why c says told_yes told_no small (inr (inr (inr (inr is)))) = inl (inr is, claimed v told c (told_yes (inr is)) says)
kept (Err e) r told why c says told_yes told_no small (inl is) = absurd (told_yes (inl is))
kept (Err e) r told why c says told_yes told_no small (inr (inl is)) = absurd ((told_no is).1 says)
kept (Err e) r told why c says told_yes told_no small (inr (inr (inl is))) = inr is
kept (Err e) r told why c says told_yes told_no small (inr (inr (inr (inl is)))) = absurd (small is)
kept (Err e) r told why c says told_yes told_no small (inr (inr (inr (inr is)))) = absurd (told_yes (inr is))

paid_for : (r : ℤ) (told : BpfVerdict) (c : CertificateView) (limit : ℕ) → IsKept r told c → (r ≡ negsuc 3 → limit < told.bound) → c.steps ≤ limit → ((r ≡ pos 1) × IsVerdictOf c told) ⊎ (r ≡ negsuc 0)
paid_for r told c limit (inl (inl is, same)) long few = inl (is, same)
paid_for r told c limit (inl (inr is, same)) long few = absurd (omega (arith, long is, same.2, few))
paid_for r told c limit (inr is) long few = inr is

not_paid_for : (r : ℤ) (told : BpfVerdict) (c : CertificateView) (limit : ℕ) → IsKept r told c → (r ≡ pos 1 → told.bound ≤ limit) → limit < c.steps → ((r ≡ negsuc 3) × IsVerdictOf c told) ⊎ (r ≡ negsuc 0)
not_paid_for r told c limit (inl (inl is, same)) paid many = absurd (omega (arith, paid is, same.2, many))
not_paid_for r told c limit (inl (inr is, same)) paid many = inl (is, same)
not_paid_for r told c limit (inr is) paid many = inr is

pub loads : (j : Judged) (r : ℤ) (told : BpfVerdict) (why : BpfRefusal) (c : CertificateView) (limit : ℕ) → Claims j c → ((r ≡ pos 1) ⊎ (r ≡ negsuc 3) → IsYes j told) → (r ≡ pos 0 → IsNo j why) → (r ≢ negsuc 2) → IsLoadAnswer r → (r ≡ negsuc 3 → limit < told.bound) → c.steps ≤ limit → ((r ≡ pos 1) × IsVerdictOf c told) ⊎ (r ≡ negsuc 0)
loads j r told why c limit says told_yes told_no small answers long few = paid_for r told c limit (kept j r told why c says told_yes told_no small answers) long few

pub tells_too_long : (j : Judged) (r : ℤ) (told : BpfVerdict) (why : BpfRefusal) (c : CertificateView) (limit : ℕ) → Claims j c → ((r ≡ pos 1) ⊎ (r ≡ negsuc 3) → IsYes j told) → (r ≡ pos 0 → IsNo j why) → (r ≢ negsuc 2) → IsLoadAnswer r → (r ≡ pos 1 → told.bound ≤ limit) → limit < c.steps → ((r ≡ negsuc 3) × IsVerdictOf c told) ⊎ (r ≡ negsuc 0)
tells_too_long j r told why c limit says told_yes told_no small answers paid many = not_paid_for r told c limit (kept j r told why c says told_yes told_no small answers) paid many

-- a verdict is promised by a certificate
pub certified : (order : Order) (image text : List ℕ) (j : Judged) → IsOk j → IfOk j (λ v. Promises order image text v.least v.most v.bound) → (c : CertificateView) × Certifies order image text c
certified order image text (Ok v) is holds = (holds.certificate, holds.certifies)
certified order image text (Err e) is holds = absurd (false≢true is)

-- an image that is judged with a yes is a program's
pub is_program : (order : Order) (image : List ℕ) (j : Judged) → IfOk j (λ v. Verified order image v.least v.most v.bound) → IsOk j → (is : List Insn) × IsImageOfProgram order image is
is_program order image (Ok v) verified is = (verified.program, verified.is_image)
is_program order image (Err e) verified is = absurd (false≢true is)
