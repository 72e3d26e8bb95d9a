use Rattle.std.proofs.Common.{rules, refl, Some}
use Rattle.bpf_answers.proofs.image.image_at.Goals as goal

pub returns-in-Err-Memory-read_image-clause-ok : goal.returns-in-Err-Memory-read_image-clause-ok
returns-in-Err-Memory-read_image-clause-ok g c = ((g.P.Reader.Read.remaining c.in-Ok.reader, c.in-Ok.ensures), refl)

pub returns-in-Ok-read_image-clause-names : goal.returns-in-Ok-read_image-clause-names
returns-in-Ok-read_image-clause-names g c = (Some (g.P.Reader.Read.remaining c.in-Ok.reader), c.in-Ok.ensures)

pub returns-in-Err-Memory-read_image-clause-names : goal.returns-in-Err-Memory-read_image-clause-names
returns-in-Err-Memory-read_image-clause-names g c = (Some (g.P.Reader.Read.remaining c.in-Ok.reader), c.in-Ok.ensures)

pub returns : goal.returns
returns g c = record { ok = tt; err = search rules; quiet = tt; names = (Some (g.P.Reader.Read.remaining c.in-Ok.reader), c.in-Ok.ensures) }
