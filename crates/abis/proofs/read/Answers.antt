-- `read` gives each number what is read of its row: antt computes the code of each description, which is the row at that place of the table.
use borrow.Author.Rules.{rules}
use Rattle.shape.proofs.Cases.{none_below}
use Rattle.abis.specs.Abis.{described, descriptions, description_count}
use Rattle.abis.proofs.Rows.{here, past_last, read_here}
use Rattle.abis.proofs.read.Goals as goal

pub returns-in-0 : goal.returns-in-0
unfolding described descriptions
returns-in-0 c = read_here c.args.d (here 0 c.in-0.is) c.read_of.ensures

pub returns-in-1 : goal.returns-in-1
unfolding described descriptions
returns-in-1 c = read_here c.args.d (here 1 c.in-1.is) c.read_of-in-1.ensures

pub returns-in-2 : goal.returns-in-2
unfolding described descriptions
returns-in-2 c = read_here c.args.d (here 2 c.in-2.is) c.read_of-in-2.ensures

pub returns-in-3 : goal.returns-in-3
unfolding described descriptions
returns-in-3 c = read_here c.args.d (here 3 c.in-3.is) c.read_of-in-3.ensures

pub returns-in-4 : goal.returns-in-4
unfolding described descriptions
returns-in-4 c = read_here c.args.d (here 4 c.in-4.is) c.read_of-in-4.ensures

pub returns-in-5 : goal.returns-in-5
unfolding described descriptions
returns-in-5 c = read_here c.args.d (here 5 c.in-5.is) c.read_of-in-5.ensures

pub returns-in-6 : goal.returns-in-6
unfolding described descriptions
returns-in-6 c = read_here c.args.d (here 6 c.in-6.is) c.read_of-in-6.ensures

pub returns-in-7 : goal.returns-in-7
unfolding described descriptions
returns-in-7 c = read_here c.args.d (here 7 c.in-7.is) c.read_of-in-7.ensures

pub returns-in-8 : goal.returns-in-8
unfolding described descriptions
returns-in-8 c = read_here c.args.d (here 8 c.in-8.is) c.read_of-in-8.ensures

pub returns-in-9 : goal.returns-in-9
unfolding described descriptions
returns-in-9 c = read_here c.args.d (here 9 c.in-9.is) c.read_of-in-9.ensures

pub returns-in-10 : goal.returns-in-10
unfolding described descriptions
returns-in-10 c = read_here c.args.d (here 10 c.in-10.is) c.read_of-in-10.ensures

pub returns-in-11 : goal.returns-in-11
unfolding described descriptions
returns-in-11 c = read_here c.args.d (here 11 c.in-11.is) c.read_of-in-11.ensures

pub returns-in-12 : goal.returns-in-12
unfolding described descriptions
returns-in-12 c = read_here c.args.d (here 12 c.in-12.is) c.read_of-in-12.ensures

pub returns-in-13 : goal.returns-in-13
unfolding described descriptions
returns-in-13 c = read_here c.args.d (here 13 c.in-13.is) c.read_of-in-13.ensures

pub returns-in-14 : goal.returns-in-14
unfolding described descriptions
returns-in-14 c = read_here c.args.d (here 14 c.in-14.is) c.read_of-in-14.ensures

pub returns-in-15 : goal.returns-in-15
unfolding described descriptions
returns-in-15 c = read_here c.args.d (here 15 c.in-15.is) c.read_of-in-15.ensures

pub returns-in-16 : goal.returns-in-16
unfolding described descriptions
returns-in-16 c = read_here c.args.d (here 16 c.in-16.is) c.read_of-in-16.ensures

pub returns-in-17 : goal.returns-in-17
unfolding described descriptions
returns-in-17 c = read_here c.args.d (here 17 c.in-17.is) c.read_of-in-17.ensures

pub returns-in-18 : goal.returns-in-18
unfolding described descriptions
returns-in-18 c = read_here c.args.d (here 18 c.in-18.is) c.read_of-in-18.ensures

pub returns-in-19 : goal.returns-in-19
unfolding described descriptions
returns-in-19 c = read_here c.args.d (here 19 c.in-19.is) c.read_of-in-19.ensures

pub returns-in-20 : goal.returns-in-20
unfolding described descriptions
returns-in-20 c = read_here c.args.d (here 20 c.in-20.is) c.read_of-in-20.ensures

pub returns-in-21 : goal.returns-in-21
unfolding described descriptions
returns-in-21 c = read_here c.args.d (here 21 c.in-21.is) c.read_of-in-21.ensures

pub returns-in-22 : goal.returns-in-22
unfolding described descriptions
returns-in-22 c = read_here c.args.d (here 22 c.in-22.is) c.read_of-in-22.ensures

pub returns-in-23 : goal.returns-in-23
unfolding described descriptions
returns-in-23 c = read_here c.args.d (here 23 c.in-23.is) c.read_of-in-23.ensures

pub returns-in-24 : goal.returns-in-24
unfolding described descriptions
returns-in-24 c = read_here c.args.d (here 24 c.in-24.is) c.read_of-in-24.ensures

pub returns-in-25 : goal.returns-in-25
unfolding described descriptions
returns-in-25 c = read_here c.args.d (here 25 c.in-25.is) c.read_of-in-25.ensures

pub returns-in-26 : goal.returns-in-26
unfolding described descriptions
returns-in-26 c = read_here c.args.d (here 26 c.in-26.is) c.read_of-in-26.ensures

pub returns-in-27 : goal.returns-in-27
unfolding described descriptions
returns-in-27 c = read_here c.args.d (here 27 c.in-27.is) c.read_of-in-27.ensures

pub returns-in-28 : goal.returns-in-28
unfolding described descriptions
returns-in-28 c = read_here c.args.d (here 28 c.in-28.is) c.read_of-in-28.ensures

pub returns-in-29 : goal.returns-in-29
unfolding described descriptions
returns-in-29 c = read_here c.args.d (here 29 c.in-29.is) c.read_of-in-29.ensures

pub returns-in-30 : goal.returns-in-30
unfolding described descriptions
returns-in-30 c = read_here c.args.d (here 30 c.in-30.is) c.read_of-in-30.ensures

pub returns-in-31 : goal.returns-in-31
unfolding described descriptions
returns-in-31 c = read_here c.args.d (here 31 c.in-31.is) c.read_of-in-31.ensures

pub returns-in-32 : goal.returns-in-32
unfolding described descriptions
returns-in-32 c = read_here c.args.d (here 32 c.in-32.is) c.read_of-in-32.ensures

pub returns-in_default : goal.returns-in_default
unfolding described descriptions
returns-in_default c = read_here c.args.d (past_last _ (none_below description_count c.args.d (search rules))) c.read_of-in_default.ensures
