-- How many steps were counted, and what is true of every server.
use Rattle.std.specs.Prelude.{◌≡◌, ◌≤◌, ◌<◌, ℕ, Bool, true, false, length, filter, if◌then◌else◌}
use Rattle.std.specs.List.{AllByRecursion, sum_by}
use Rattle.server_table.specs.declared.event.Answer.{Answer}
use Rattle.server_table.specs.declared.event.Answer.TheVariants.{Session, Accepted, Answered, Picked, Nothing, Performed, Reply, Empty, End, Left, Dropped, NoExport, NotOpen, Worn, Full, Hold, NotOut, Retuned, Waiting, NoMemory}
use Rattle.nbd_base.specs.Range.{IsOptionInRange}
use Rattle.tag_clock.specs.Tags.{AreInRange}
use Rattle.server_table.specs.Table.{Side}
use Rattle.server_table.specs.Order.{tags_of}
use Rattle.server_core.specs.Served.{Served}
use Rattle.server_core.specs.Journals.{EachComesOfJournal}
use Rattle.server_core.specs.Seats.{AreSeated}

-- the counted steps of all exports together
abbrev pub counted_steps : Served → ℕ
counted_steps served = sum_by (λ side. side.count) served.table.sides

module _ {A : Type 0} where
  -- whether an answer tells that something changed
  abbrev pub is_counted : Answer A → Bool
  is_counted (Session n) = true
  is_counted (Accepted n tag) = true
  is_counted (Answered error) = true
  is_counted (Picked e n phase) = true
  is_counted Nothing = false
  is_counted (Performed memory) = true
  is_counted (Reply reply) = true
  is_counted Empty = false
  is_counted End = false
  is_counted Left = true
  is_counted Dropped = true
  is_counted NoExport = false
  is_counted NotOpen = false
  is_counted Worn = false
  is_counted Full = false
  is_counted Hold = false
  is_counted NotOut = false
  is_counted Retuned = true
  is_counted Waiting = false
  is_counted NoMemory = false

  -- by how many the counted steps rise
  abbrev pub rise : Answer A → ℕ
  rise said = if is_counted said then 1 else 0

-- each last tag that there is lies between -2^126 and 2^126
pub record AreLastInRange (side : Side) : Type 0 where
  pub last_r : IsOptionInRange side.last_r
  pub last_l : IsOptionInRange side.last_l
  pub last_p : IsOptionInRange side.last_p

-- no more requests are out than may be; each export of the setup has its side and its journal, and comes of that; each row is of an
-- export that is there; the requests of one export that are in service have a slot each, and no two the same; the tags of each request
-- that waits or is in service, and the last ones, lie between -2^126 and 2^126
pub record IsSound (served : Served) : Type 0 where
  pub within : length (filter (λ row. row.out) served.table.rows) ≤ served.setup.inflight
  pub sides : length served.table.sides ≡ length served.setup.exports
  pub journals : length served.journals ≡ length served.setup.exports
  pub comes : EachComesOfJournal served
  pub rows : AllByRecursion (λ row. row.export < length served.setup.exports) served.table.rows
  pub seats : length served.seats ≡ length served.setup.exports
  pub seated : (e : ℕ) → e < length served.setup.exports → AreSeated served e
  pub tags : AllByRecursion (λ row. AreInRange (tags_of row)) served.table.rows
  pub last_tags : AllByRecursion AreLastInRange served.table.sides
