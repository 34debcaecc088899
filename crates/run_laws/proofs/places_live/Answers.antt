use Rattle.run_laws.proofs.PlaceLaw.{place-lives}
use Rattle.run_laws.proofs.places_live.Goals as goal

pub returns : goal.returns
returns c = record { lives = place-lives }
