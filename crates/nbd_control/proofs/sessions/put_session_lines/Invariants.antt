use Rattle.std.proofs.Common.{◌≡◌, ◌++◌, drop}
use Rattle.std.specs.List.{flat_map}
use Rattle.nbd_control.specs.Sessions.{session_line}
use Rattle.nbd_control.proofs.sessions.put_session_lines.Given as goal

-- what is put so far and what is left are the whole
abbrev pub invariant-loop-session : goal.invariant-loop-session
invariant-loop-session g l = l.text.items ++ flat_map session_line (drop l.session-index l.sessions) ≡ l.fn.text.items ++ flat_map session_line l.sessions
