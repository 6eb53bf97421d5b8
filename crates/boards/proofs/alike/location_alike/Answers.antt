-- What both settings have at the location.
use Rattle.std.proofs.Common.{ap₂, ◌∙◌, Option}
use Rattle.machine.specs.Found.{fetch_of}
use Rattle.boards.specs.declared.settings.Attribute.{Attribute}
use Rattle.boards.specs.Alike.{location_alike}
use Rattle.boards.specs.Settings.{attribute_of, buffer_in, buffer_of}
use Rattle.boards.proofs.alike.location_alike.Goals as goal

pub returns-in-Some-attribute_at : goal.returns-in-Some-attribute_at
returns-in-Some-attribute_at c =
    let x = c.args.x.now in
    let y = c.args.y.now in
    let l = c.args.location in
    c.fetches_alike.ensures l
    ∙ ap₂ (λ (a b : Option Attribute). location_alike (fetch_of l (λ i. buffer_of (buffer_in x i)) (attribute_of a)) (fetch_of l (λ i. buffer_of (buffer_in y i)) (attribute_of b)))
    c.in-Some-attribute_at.ensures c.in-Some.ensures
