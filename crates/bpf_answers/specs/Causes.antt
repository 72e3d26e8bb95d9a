-- What the system's errors are to a name.
use Rattle.std.specs.declared.io.ErrorKind.{ErrorKind}
use Rattle.std.specs.declared.io.ErrorKind.TheVariants.{OutOfMemory}
use Rattle.bpf_answers.specs.declared.error.PlaceError.{PlaceError}
use Rattle.bpf_answers.specs.declared.error.PlaceError.TheVariants.{Refused, Memory}

abbrev pub place_error : ErrorKind → PlaceError
place_error OutOfMemory = Memory
place_error _ = Refused
