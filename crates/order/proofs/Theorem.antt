-- THE ORDER THEOREM (document 01, demand 3): for every list of calls, refused ones included, on every board, from an accepted `begin_encoding` up to any point:
-- played from a fresh machine, the draws of the first render pass are those that the book has, in order and as many, and each finds exactly what the book names there. Assumes nothing.
-- Under document 01's premises and no other (`Premises`, `Premise`, of `book`).
use Rattle.book.specs.FirstPass.{shots, entries}
use Rattle.order.specs.Claim.{Order}
use Rattle.order.proofs.Induction.{all-agree, found-is, as_many}

pub order : Order
order caps rooms s calls e P =
    let A = all-agree caps rooms s calls e P in
    (as_many caps (shots caps rooms s calls) (entries caps rooms s calls) A, found-is caps (shots caps rooms s calls) (entries caps rooms s calls) A)
