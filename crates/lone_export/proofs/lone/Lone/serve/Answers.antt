use Rattle.lone_export.proofs.Asked.{admitted_is, admitted_owed}
use Rattle.lone_export.proofs.Rounds.{done_told, serves_all}
use Rattle.lone_export.proofs.lone.Lone.serve.Goals as goal

pub put-requires : goal.put-requires
put-requires g c =
    let may = c.requires.admits in
    admitted_owed _ c.args.session _ c.self.invariant (admitted_is _ c.args.session _ c.admit-2.result _ c.self.invariant c.self.view_is (may.is_open, may.young, may.spare) c.admit-2.ensures)

pub invariant_of-self-2 : goal.invariant_of-self-2
invariant_of-self-2 g c =
    let may = c.requires.admits in
    let done = c.in-Ok.ensures.done in
    (serves_all _ c.args.session c.args.moment c.args.request _ c.self.invariant c.self.view_is c.requires c.nanoseconds.ensures.below _ c.head-cookie.ensures.fits done.1 _ _ _ _ _ c.skip.ensures c.admit.ensures.clock
    (admitted_is _ c.args.session _ c.admit-2.result _ c.self.invariant c.self.view_is (may.is_open, may.young, may.spare) c.admit-2.ensures)
    (done_told c.args.request _ _ _ _ c.done.ensures c.head-cookie.ensures.value done.0) c.put.ensures).0

pub returns-clause-ok : goal.returns-clause-ok
returns-clause-ok g c =
    let may = c.requires.admits in
    let done = c.in-Ok.ensures.done in
    (serves_all _ c.args.session c.args.moment c.args.request _ c.self.invariant c.self.view_is c.requires c.nanoseconds.ensures.below _ c.head-cookie.ensures.fits done.1 _ _ _ _ _ c.skip.ensures c.admit.ensures.clock
    (admitted_is _ c.args.session _ c.admit-2.result _ c.self.invariant c.self.view_is (may.is_open, may.young, may.spare) c.admit-2.ensures)
    (done_told c.args.request _ _ _ _ c.done.ensures c.head-cookie.ensures.value done.0) c.put.ensures).1
