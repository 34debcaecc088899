-- What a pass on the queue of a mail knows.
use Rattle.std.specs.Prelude.{◌≡◌, ℕ, ◌+◌, Bool, true, false, []}
use Rattle.atomic_table.specs.Seated.{TableId}

-- which ends of the mail it has, of which pool's table and which lanes; how many letters are ever
-- sent there, and how many it sent, and received
pub record KnownEnds : Type 0 where
  pub sends : Bool
  pub receives : Bool
  pub table : TableId
  pub from : ℕ
  pub to : ℕ
  pub room : ℕ
  pub sent : ℕ
  pub received : ℕ

-- the name of no table
abbrev pub no_table : TableId
no_table =
    record {
      words = 0;
      slots = 0;
      views_name = 0;
      atom = 0;
      block = 0;
      offset = 0;
      slot_names = [];
    }

-- the first pass of a mail, which has no name yet
abbrev pub no_ends : KnownEnds
no_ends =
    record {
      sends = true;
      receives = true;
      table = no_table;
      from = 0;
      to = 0;
      room = 0;
      sent = 0;
      received = 0;
    }

-- the end of the lane that sends, after so many letters
abbrev pub sender : TableId → ℕ → ℕ → ℕ → ℕ → KnownEnds
sender table from to room sent =
    record {
      sends = true;
      receives = false;
      table = table;
      from = from;
      to = to;
      room = room;
      sent = sent;
      received = 0;
    }

-- the end of the lane that receives, after so many letters
abbrev pub receiver : TableId → ℕ → ℕ → ℕ → ℕ → KnownEnds
receiver table from to room received =
    record {
      sends = false;
      receives = true;
      table = table;
      from = from;
      to = to;
      room = room;
      sent = 0;
      received = received;
    }

-- it is a sender's end, or a receiver's
abbrev pub IsSender : KnownEnds → Type 0
IsSender e = e ≡ sender e.table e.from e.to e.room e.sent

abbrev pub IsReceiver : KnownEnds → Type 0
IsReceiver e = e ≡ receiver e.table e.from e.to e.room e.received

-- it sent one letter more, or received one more
abbrev pub one_sent : KnownEnds → KnownEnds
one_sent e = record e { sent = e.sent + 1 }

abbrev pub one_received : KnownEnds → KnownEnds
one_received e = record e { received = e.received + 1 }
