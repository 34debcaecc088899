-- What happens in a log, by its two facts.
use Rattle.pool_law.specs.Logs.{Logs}
use Rattle.pool_law.specs.Lives.{Happening, Happens, Stands, IsAmong, moves_by, present_at}

pub happens : {logs : Logs} {t : Happening} → Stands logs t.event
    → IsAmong t.move (moves_by (present_at logs t.event.object t.event.number) t.event.did) → Happens logs t
happens stands moves = record { stands = stands; moves = moves }

-- one proof, and then the next
infixr 4 ◌then◌
pub ◌then◌ : {A B : Type 0} → A → B → A × B
a then b = (a, b)
