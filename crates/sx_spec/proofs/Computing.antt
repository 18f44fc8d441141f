-- What a worked example computes with: `unfolding account` lets `refl` compute the replies of a short history.
use lib.Utf8.{encode}
use Rattle.std.specs.Str.{chars}
use Rattle.caseless.proofs.Computing.{caseless}
use Rattle.sx_names.specs.Names.{fold}
use Rattle.sx_extent.specs.Ranges.{is_marked, touches, covers, marks_by, blank, update, clear, resize, extend, write}
use Rattle.sx_extent.specs.Ranges.{used, fresh}
use Rattle.sx_tree.specs.Body.{update_within, write_within, clear_within, resize_within}
use Rattle.sx_tree.specs.Tree.{tree_use}
use Rattle.sx_spec.specs.Changes.{add_share, drop_share, make_node, put_facts, put_file, delete_at, put_open, take_open}
use Rattle.sx_spec.specs.Changes.{put_lock, take_lock, change_open, close_fate, close, close_all, put_session}
use Rattle.sx_spec.specs.Changes.{take_session}
use Rattle.sx_spec.specs.Checks.{first_check, file_checks, held_checks}
use Rattle.sx_spec.specs.Places.{node_place, directory_place, file_place, making_place, handle_place, held_file}
use Rattle.sx_spec.specs.Places.{held_directory}
use Rattle.sx_spec.specs.Trees.{tree_at_rest}

-- names are folded, files are written, and calls change shares, opens and locks
unfoldable pub account : Unit {0}
unfolding encode chars caseless fold is_marked touches covers marks_by blank update clear resize extend write used fresh update_within write_within clear_within resize_within tree_use add_share drop_share make_node put_facts put_file delete_at put_open take_open put_lock take_lock change_open close_fate close close_all put_session take_session first_check file_checks held_checks node_place directory_place file_place making_place handle_place held_file held_directory tree_at_rest
account = tt
