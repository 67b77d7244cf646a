use Rattle.std.proofs.Common.{◌+◌, ◌-◌, ◌*◌}
use Rattle.ber.proofs.window.Window.+check_list_check_value.Given as goal

abbrev pub decreases-check_list : goal.decreases-check_list
decreases-check_list l = 2 * (l.self.now.end - l.self.now.pos) + 1

abbrev pub decreases-check_value : goal.decreases-check_value
decreases-check_value l = 2 * (l.self.now.end - l.self.now.pos)
