-- Texts put together.
use Rattle.std.proofs.Common.{append_assoc, append-nil}

pub ruleset texts = (append_assoc, append-nil)
