-- The examples, computed.
use mathlib.Core.Path.{◌≡◌, refl}
use mathlib.Core.List.{map}
use Rattle.shape.specs.Words as words
use Rattle.shape.specs.Arithmetic as arithmetic
use Rattle.shape.specs.Lists as lists
use Rattle.checks.specs.Check as checks
use Rattle.layouts.specs.Members as members
use Rattle.types.specs.Entries as entries
use Rattle.types.specs.Tree as tree
use Rattle.types.specs.Trees as trees
use Rattle.flatten.specs.Leaves as leaves
use Rattle.flatten.specs.Flattened as flat
use Rattle.flatten.specs.Examples as shown
use Rattle.flatten.specs.Examples.{examples, found, expected}

pub examples_found : map found examples ≡ map expected examples
unfolding words.pieces_of words.first_piece words.piece_at words.put_at arithmetic.round_up lists.every checks.scalar_refusal members.pieces_words entries.members_from entries.meaning_of entries.referred entries.all_refer_back tree.align_of tree.reach tree.last_reach tree.size_of tree.takes_of tree.levels_of tree.leaves_of trees.laid_out trees.tree_of trees.trees trees.lists_refusal trees.references_refusal trees.tree_refusal trees.trees_refusal trees.types_refusal leaves.offset_at leaves.scalar_at_end leaves.element_paths leaves.leaf_paths flat.room_refusal flat.flatten_refusal flat.flatten_answer flat.flatten_written shown.arrays_from
examples_found = refl
