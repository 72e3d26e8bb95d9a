-- Linux's auxiliary data of a packet (the header <linux/filter.h>, SKF_AD_OFF): words that a load from 0xfffff000 on names, of any size.
use Rattle.std.specs.Prelude.{ℕ, ◌==◌, Option, Some, None, option_map, if◌then◌else◌}
use Rattle.bpf_classic.specs.Codes.{instruction_of}
use Rattle.bpf_classic.specs.declared.instruction.LoadSize.{LoadSize}
use Rattle.bpf_classic.specs.declared.instruction.Auxiliary.{Auxiliary}
use Rattle.bpf_classic.specs.declared.instruction.Auxiliary.TheVariants.{Protocol, PacketType, Interface, Mark, Queue, HardwareType, Hash, Processor, VlanTag, HasVlanTag, Random, VlanProtocol}
use Rattle.bpf_classic.specs.declared.instruction.Classic.{Classic}
use Rattle.bpf_classic.specs.declared.instruction.Classic.TheVariants.{At, Extension}
use Rattle.bpf_classic.specs.declared.raw.Raw.{Raw}
use Rattle.bpf_classic.specs.declared.refusal.Kind.{Kind}
use Rattle.bpf_classic.specs.declared.refusal.Kind.TheVariants.{Packets, Seccomp, Extended}

-- how many bytes the word lies behind the first one
abbrev pub offset_of : Auxiliary → ℕ
offset_of Protocol = 0
offset_of PacketType = 4
offset_of Interface = 8
offset_of Mark = 20
offset_of Queue = 24
offset_of HardwareType = 28
offset_of Hash = 32
offset_of Processor = 36
offset_of VlanTag = 44
offset_of HasVlanTag = 48
offset_of Random = 56
offset_of VlanProtocol = 60

-- the word that a load from there names, if there is one: SKF_AD_OFF is 0xfffff000
abbrev pub auxiliary_at : ℕ → Option Auxiliary
auxiliary_at k =
    if k == 0xfffff000 then Some Protocol
    else if k == 0xfffff004 then Some PacketType
    else if k == 0xfffff008 then Some Interface
    else if k == 0xfffff014 then Some Mark
    else if k == 0xfffff018 then Some Queue
    else if k == 0xfffff01c then Some HardwareType
    else if k == 0xfffff020 then Some Hash
    else if k == 0xfffff024 then Some Processor
    else if k == 0xfffff02c then Some VlanTag
    else if k == 0xfffff030 then Some HasVlanTag
    else if k == 0xfffff038 then Some Random
    else if k == 0xfffff03c then Some VlanProtocol
    else None

abbrev pub or_load : LoadSize → ℕ → Option Auxiliary → Classic
or_load size k None = At size k
or_load size k (Some word) = Extension word

-- an instruction in filters of a kind
abbrev pub extended : Classic → Classic
extended (At size k) = or_load size k (auxiliary_at k)
extended i = i

abbrev pub in_kind : Kind → Classic → Classic
in_kind Packets i = i
in_kind Seccomp i = i
in_kind Extended i = extended i

-- the instruction with a code, if there is one, in filters of a kind
abbrev pub instruction_in : Kind → Raw → Option Classic
instruction_in kind r = option_map (in_kind kind) (instruction_of r)
