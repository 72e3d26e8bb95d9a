-- What `run-checked --packets` answers, by what the names hold.
use Rattle.std.specs.Prelude.{◌≡◌, ◌⊎◌, ℕ, ◌<◌, ◌≤◌, List, [], ◌∷◌, Option, Some, None}
use Rattle.std.specs.Io.KnownBytes.{Appends, Keeps}
use Rattle.bpf_insn.specs.Instruction.{Instructions}
use Rattle.bpf_insn.specs.Written.{AppendsBeginning}
use Rattle.bpf_insn.specs.declared.order.Order.{Order}
use Rattle.bpf_cert.specs.View.{CertificateView}
use Rattle.bpf_check.specs.CheckedProgram.{CheckedProgram, IsCertifiedBy, checked}
use Rattle.bpf_flat.specs.Runs.{RunsTo}
use Rattle.bpf_semantics.specs.Blocks.{head_bytes}
use Rattle.bpf_captures.specs.Lines.{IsTold}
use Rattle.bpf_captures.specs.Stops.{Replayed, Replays}
use Rattle.bpf_captures.specs.declared.answerer.BlockLayout.{BlockLayout}
use Rattle.bpf_captures.specs.declared.turn.CaptureEnd.{CaptureEnd}
use Rattle.bpf_captures.specs.declared.turn.CaptureEnd.TheVariants.{End, Refused, Failed}
use Rattle.std.specs.Borrow.{Bor}
use Rattle.bpf_answers.specs.Opened.{Opening}
use Rattle.bpf_command.specs.declared.request.contexts.Contexts.{Contexts}
use Rattle.bpf_command.specs.declared.request.contexts.Contexts.TheVariants.{Word, Bytes, Lines, Nothing, Several}
use Rattle.bpf_command.specs.declared.request.replaying.Replaying.{Replaying}
use Rattle.bpf_answers.specs.declared.answer.Answer.{Answer}
use Rattle.bpf_answers.specs.declared.answer.Answer.TheVariants.{NoCapture, NoContext}
use Rattle.bpf_answers.specs.declared.reply.Reply.{Reply}
use Rattle.bpf_answers.specs.declared.reply.Reply.TheVariants.{One, Each}
use Rattle.bpf_answers.specs.Loaded.{CertificateAt, CertificateFails, ImageFails, LoadsImage}
use Rattle.bpf_answers.specs.Told.{OutputFails}
use Rattle.bpf_answers.specs.declared.failure.Failure.{Failure}
use Rattle.bpf_answers.specs.declared.failure.Failure.TheVariants.{CannotRead, ContextTwice, NotTogether}
use Rattle.bpf_command.specs.Given.{Replies}
use Rattle.bpf_command.specs.Printed.{ImageSays, JudgedSays}
use Rattle.bpf_command.specs.declared.commands.packets.Packets.{Packets}

-- ---- the answers to packets

-- BlockLayout are as long as the certificate lets contexts be, and tell a packet's length in the image's byte order.
abbrev pub blocks_of : Order → CheckedProgram → BlockLayout
blocks_of order k = record { order = order; size = k.certificate.most }

-- the number with which the program ends on a block
abbrev pub Gives : CheckedProgram → List ℕ → ℕ → Type 0
Gives k block value = RunsTo k.program k.certificate.steps block value

-- what is answered behind the packets: nothing more, or why the capture is refused
abbrev pub EndsBy : CaptureEnd → Reply → Type 0
EndsBy End reply = reply ≡ Each 0
EndsBy (Refused refusal) reply = reply ≡ One (NoCapture refusal)
EndsBy Failed reply = ⊥

-- The packets before the file's end, or before its refusal, were answered, and the refusal is answered behind them.
pub record ReplaySays (packets : Packets) (k : CheckedProgram) (known before after : Option (List ℕ)) (reply : Reply) : Type 0 where
  pub stop : CaptureEnd
  pub values : List ℕ
  pub text : List ℕ
  pub replayed : Replayed (Gives k) (blocks_of packets.order k) known stop values
  pub told : IsTold packets.counts values text
  pub ends : EndsBy stop reply
  pub printed : Appends before after text

-- The reader failed, and the packets before were answered; or the output did.
abbrev pub ReplayFails : Packets → CheckedProgram → Option (List ℕ) → Option (List ℕ) → Option (List ℕ) → Failure → Type 0
ReplayFails packets k known before after (CannotRead name) =
    (name.now ≡ packets.name.now) × Replays (Gives k) (blocks_of packets.order k) known packets.counts (Appends before after) Failed
ReplayFails packets k known before after failure = OutputFails failure

-- where that fails, a beginning was printed of the answers to the first packets
abbrev pub ReplayLeft : Packets → CheckedProgram → Option (List ℕ) → Option (List ℕ) → Option (List ℕ) → Type 0
ReplayLeft packets k known before after = Replays (Gives k) (blocks_of packets.order k) known packets.counts (AppendsBeginning before after) Failed

-- ---- at a name

-- the name is opened, and its packets are answered
abbrev pub PacketsSay : {S : Type 0} → Opening S → S → Packets → S → CheckedProgram → Option (List ℕ) → Option (List ℕ) → Reply → Type 0
PacketsSay opening old packets new k before after reply = (known : Option (List ℕ)) × opening old packets.name.now (Some known) new × ReplaySays packets k known before after reply

-- the name can't be opened, or something of it fails
abbrev pub PacketsFail : {S : Type 0} → Opening S → S → Packets → S → CheckedProgram → Option (List ℕ) → Option (List ℕ) → Failure → Type 0
PacketsFail opening old packets new k before after (CannotRead name) =
    ((name.now ≡ packets.name.now) × opening old packets.name.now None new × Keeps before after)
    ⊎ ((known : Option (List ℕ)) × opening old packets.name.now (Some known) new × ReplayFails packets k known before after (CannotRead name))
PacketsFail opening old packets new k before after failure = OutputFails failure

abbrev pub PacketsLeave : {S : Type 0} → Opening S → S → Packets → S → CheckedProgram → Option (List ℕ) → Option (List ℕ) → Type 0
PacketsLeave opening old packets new k before after =
    Keeps before after ⊎ ((known : Option (List ℕ)) × opening old packets.name.now (Some known) new × ReplayLeft packets k known before after)

-- ---- behind a certificate

-- the certificate speaks of no context that is long enough for a block
abbrev pub NoBlock : CheckedProgram → Answer → Type 0
NoBlock k (NoContext count least most) = (count ≡ head_bytes) × (least ≡ k.certificate.least) × (most ≡ k.certificate.most) × (most < head_bytes)
NoBlock k answer = ⊥

-- the certificate is refused, or its contexts have no room for a block, or the packets are answered
abbrev pub JudgedPacketsSay : {S : Type 0} → Opening S → S → Packets → S → Instructions → Option (List ℕ) → Option (List ℕ) → Reply → Type 0
JudgedPacketsSay {S} opening old packets new p before after reply =
    Replies (JudgedSays opening old packets.certificate.now new p NoBlock) before after reply
    ⊎ ((between : S) × (c : CertificateView) × CertificateAt opening old packets.certificate.now between c × IsCertifiedBy p c × (head_bytes ≤ c.most)
    × PacketsSay opening between packets new (checked p c) before after reply)

abbrev pub JudgedPacketsFail : {S : Type 0} → Opening S → S → Packets → S → Instructions → Option (List ℕ) → Option (List ℕ) → Failure → Type 0
JudgedPacketsFail {S} opening old packets new p before after failure =
    CertificateFails opening old packets.certificate.now new failure
    ⊎ ((between : S) × (c : CertificateView) × CertificateAt opening old packets.certificate.now between c × IsCertifiedBy p c
    × PacketsFail opening between packets new (checked p c) before after failure)

-- where that fails nothing was printed, or a beginning of the answers
abbrev pub JudgedPacketsLeave : {S : Type 0} → Opening S → S → Packets → S → Instructions → Option (List ℕ) → Option (List ℕ) → Type 0
JudgedPacketsLeave {S} opening old packets new p before after =
    Keeps before after
    ⊎ ((between : S) × (c : CertificateView) × CertificateAt opening old packets.certificate.now between c × IsCertifiedBy p c
    × PacketsLeave opening between packets new (checked p c) before after)

-- ---- behind an image

abbrev pub PacketsCheckedSay : {S : Type 0} → Opening S → S → Packets → S → Option (List ℕ) → Option (List ℕ) → Reply → Type 0
PacketsCheckedSay {S} opening old packets new before after reply =
    Replies (ImageSays opening packets.order old packets.input.now new (λ p x. ⊥)) before after reply
    ⊎ ((between : S) × (p : Instructions) × LoadsImage opening packets.order old packets.input.now between p
    × JudgedPacketsSay opening between packets new p before after reply)

abbrev pub PacketsCheckedFail : {S : Type 0} → Opening S → S → Packets → S → Option (List ℕ) → Option (List ℕ) → Failure → Type 0
PacketsCheckedFail {S} opening old packets new before after failure =
    ImageFails opening old packets.input.now new failure
    ⊎ ((between : S) × (p : Instructions) × LoadsImage opening packets.order old packets.input.now between p
    × JudgedPacketsFail opening between packets new p before after failure)

abbrev pub PacketsCheckedLeave : {S : Type 0} → Opening S → S → Packets → S → Option (List ℕ) → Option (List ℕ) → Type 0
PacketsCheckedLeave {S} opening old packets new before after =
    Keeps before after
    ⊎ ((between : S) × (p : Instructions) × LoadsImage opening packets.order old packets.input.now between p
    × JudgedPacketsLeave opening between packets new p before after)

-- ---- by what is given

-- the capture with this name, as it is asked for
abbrev pub packets_of : Replaying → Bor (List ℕ) → Packets
packets_of r name = record { input = r.input; certificate = r.certificate; name = name; counts = r.counts; order = r.order }

-- The packets are answered. With other contexts beside them, or with no capture, nothing is.
abbrev pub SaysOn : {S : Type 0} → Opening S → S → Replaying → Option (Bor (List ℕ)) → Contexts → S → Option (List ℕ) → Option (List ℕ) → Reply → Type 0
SaysOn opening old r (Some name) Nothing new before after reply = PacketsCheckedSay opening old (packets_of r name) new before after reply
SaysOn opening old r (Some name) (Word hex) new before after reply = ⊥
SaysOn opening old r (Some name) (Bytes other) new before after reply = ⊥
SaysOn opening old r (Some name) (Lines lines) new before after reply = ⊥
SaysOn opening old r (Some name) Several new before after reply = ⊥
SaysOn opening old r None contexts new before after reply = ⊥

abbrev pub FailsOn : {S : Type 0} → Opening S → S → Replaying → Option (Bor (List ℕ)) → Contexts → S → Option (List ℕ) → Option (List ℕ) → Failure → Type 0
FailsOn opening old r (Some name) Nothing new before after failure = PacketsCheckedFail opening old (packets_of r name) new before after failure
FailsOn opening old r (Some name) (Word hex) new before after failure = (failure ≡ ContextTwice) × (new ≡ old)
FailsOn opening old r (Some name) (Bytes other) new before after failure = (failure ≡ ContextTwice) × (new ≡ old)
FailsOn opening old r (Some name) (Lines lines) new before after failure = (failure ≡ ContextTwice) × (new ≡ old)
FailsOn opening old r (Some name) Several new before after failure = (failure ≡ ContextTwice) × (new ≡ old)
FailsOn opening old r None contexts new before after failure = (failure ≡ NotTogether) × (new ≡ old)

abbrev pub LeavesOn : {S : Type 0} → Opening S → S → Replaying → Option (Bor (List ℕ)) → Contexts → S → Option (List ℕ) → Option (List ℕ) → Type 0
LeavesOn opening old r (Some name) Nothing new before after = PacketsCheckedLeave opening old (packets_of r name) new before after
LeavesOn opening old r (Some name) (Word hex) new before after = Keeps before after
LeavesOn opening old r (Some name) (Bytes other) new before after = Keeps before after
LeavesOn opening old r (Some name) (Lines lines) new before after = Keeps before after
LeavesOn opening old r (Some name) Several new before after = Keeps before after
LeavesOn opening old r None contexts new before after = Keeps before after

-- the names that are opened, in this order
abbrev pub names_on : Replaying → Option (Bor (List ℕ)) → Contexts → List (List ℕ)
names_on r (Some name) Nothing = r.input.now ∷ r.certificate.now ∷ name.now ∷ []
names_on r (Some name) (Word hex) = []
names_on r (Some name) (Bytes other) = []
names_on r (Some name) (Lines lines) = []
names_on r (Some name) Several = []
names_on r None contexts = []

abbrev pub ReplayedSays : {S : Type 0} → Opening S → S → Replaying → S → Option (List ℕ) → Option (List ℕ) → Reply → Type 0
ReplayedSays opening old r new before after reply = SaysOn opening old r r.packets r.contexts new before after reply

abbrev pub ReplayedFails : {S : Type 0} → Opening S → S → Replaying → S → Option (List ℕ) → Option (List ℕ) → Failure → Type 0
ReplayedFails opening old r new before after failure = FailsOn opening old r r.packets r.contexts new before after failure

abbrev pub ReplayedLeaves : {S : Type 0} → Opening S → S → Replaying → S → Option (List ℕ) → Option (List ℕ) → Type 0
ReplayedLeaves opening old r new before after = LeavesOn opening old r r.packets r.contexts new before after

abbrev pub names_replayed : Replaying → List (List ℕ)
names_replayed r = names_on r r.packets r.contexts
