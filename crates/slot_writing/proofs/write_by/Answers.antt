-- `write_by` writes the slots of a decision, from where they stand.
use Rattle.slot_writing.proofs.Writing.{write_none, write_each, write_classes, write_cut, write_one}
use Rattle.slot_writing.proofs.write_by.Goals as goal

pub returns-in-Empty : goal.returns-in-Empty
returns-in-Empty c = search (write_none)

pub returns-in-EachPiece : goal.returns-in-EachPiece
returns-in-EachPiece c = search (write_each)

pub returns-in-Classes : goal.returns-in-Classes
returns-in-Classes c = search (write_classes)

pub returns-in-Cut : goal.returns-in-Cut
returns-in-Cut c = search (write_cut)

pub returns-in-One : goal.returns-in-One
returns-in-One c = search (write_one)
