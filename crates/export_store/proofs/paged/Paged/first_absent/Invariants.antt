use Rattle.std.proofs.Common.{◌≡◌, ℕ, ◌-◌, ◌<◌, ◌≤◌, true}
use Rattle.export_store.specs.Pages.{is_stored}
use Rattle.export_store.proofs.paged.Paged.first_absent.Given as goal

abbrev pub invariant-loop-absent : goal.invariant-loop-absent
invariant-loop-absent g l = record {
  begins : l.first ≤ l.absent;
  ends : l.absent ≤ l.end;
  stored : (k : ℕ) → l.first ≤ k → k < l.absent → is_stored l.self k ≡ true;
}

abbrev pub decreases-loop-absent : goal.decreases-loop-absent
decreases-loop-absent g l = l.end - l.absent
