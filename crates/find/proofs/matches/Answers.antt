-- `matches` answers what a test finds and where it stands: each way out is one law of its test.
use Rattle.find.proofs.Matching.{test_anything, test_empty, test_one_of, test_at_most, test_homogeneous, test_pair, test_x87, test_lone, test_mode, test_complex, test_eightbytes}
use Rattle.find.proofs.matches.Goals as goal

pub returns-in-Anything : goal.returns-in-Anything
returns-in-Anything c = search (test_anything)

pub returns-in-Empty : goal.returns-in-Empty
returns-in-Empty c = search (test_empty)

pub returns-in-SizeOneOf : goal.returns-in-SizeOneOf
returns-in-SizeOneOf c = search (test_one_of)

pub returns-in-SizeAtMost : goal.returns-in-SizeAtMost
returns-in-SizeAtMost c = search (test_at_most)

pub returns-in-Homogeneous : goal.returns-in-Homogeneous
returns-in-Homogeneous c = search (test_homogeneous)

pub returns-in-FloatPair : goal.returns-in-FloatPair
returns-in-FloatPair c = search (test_pair)

pub returns-in-X87Stack : goal.returns-in-X87Stack
returns-in-X87Stack c = search (test_x87)

pub returns-in-LoneFloat : goal.returns-in-LoneFloat
returns-in-LoneFloat c = search (test_lone)

pub returns-in-FloatingMode : goal.returns-in-FloatingMode
returns-in-FloatingMode c = search (test_mode)

pub returns-in-ComplexFloat : goal.returns-in-ComplexFloat
returns-in-ComplexFloat c = search (test_complex)

pub returns-in-Eightbytes : goal.returns-in-Eightbytes
returns-in-Eightbytes c = search (test_eightbytes)
