use Rattle.std.proofs.Common.{◌≡◌, length, refl, ap, arith}
use Rattle.export_store.specs.Pages.{image_of}
use Rattle.export_store.proofs.ImageLemmas.{changes, length_seen, on_err, IsPaged-replace, length-replace, held_replace, image_same, IsPaged-same}
use Rattle.export_store.proofs.paged.Paged.replace.Goals as goal

pub invariant_of-self : goal.invariant_of-self
invariant_of-self g c = IsPaged-same _ (record { size = c.self.inside.size; chunks = c.put.new.self; zeros = c.self.inside.zeros }) c.self.invariant refl c.in_err-put.ensures.no_memory (λ k. refl)

pub returns-in_err-put-clause-long : goal.returns-in_err-put-clause-long
returns-in_err-put-clause-long g c = ap length (image_same _ _ c.self.view_is c.self.invariant (record { size = c.self.inside.size; chunks = c.put.new.self; zeros = c.self.inside.zeros }) refl c.in_err-put.ensures.no_memory)

pub returns-in_err-put-clause-no_memory : goal.returns-in_err-put-clause-no_memory
returns-in_err-put-clause-no_memory g c = on_err _ _ (image_same _ _ c.self.view_is c.self.invariant (record { size = c.self.inside.size; chunks = c.put.new.self; zeros = c.self.inside.zeros }) refl c.in_err-put.ensures.no_memory)

pub overflow_add-number : goal.overflow_add-number
overflow_add-number g c =
    let long : length (image_of c.args.self.now) ≡ c.self.inside.size = length_seen _ _ c.self.view_is c.self.invariant in
    omega (arith, c.requires.begins)

pub invariant_of-self-2 : goal.invariant_of-self-2
invariant_of-self-2 g c =
    let i = c.self.inside in
    let after = c.in_ok-put.ensures in
    IsPaged-replace _ _ c.self.view_is c.self.invariant _ c.args.number c.args.page c.requires.whole c.requires.begins
    (changes i.size i.pages c.put.new.self i.zeros c.remove.new.self c.args.number c.args.page after.here after.others c.remove.ensures)

pub returns-clause-long : goal.returns-clause-long
returns-clause-long g c =
    let i = c.self.inside in
    let after = c.in_ok-put.ensures in
    length-replace _ _ c.self.view_is c.self.invariant _ c.args.number c.args.page c.requires.whole c.requires.begins
    (changes i.size i.pages c.put.new.self i.zeros c.remove.new.self c.args.number c.args.page after.here after.others c.remove.ensures)

pub returns-clause-held : goal.returns-clause-held
returns-clause-held g c =
    let i = c.self.inside in
    let after = c.in_ok-put.ensures in
    held_replace _ _ c.self.view_is c.self.invariant _ c.args.number c.args.page
    (changes i.size i.pages c.put.new.self i.zeros c.remove.new.self c.args.number c.args.page after.here after.others c.remove.ensures)
