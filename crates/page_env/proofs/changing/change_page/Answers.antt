use Rattle.page_env.proofs.changing.change_page.Goals as goal

pub returns-in-Size : goal.returns-in-Size
returns-in-Size c = rw c.in-Size.is (c.set_size.ensures c.args.defaults.now)

pub returns-in-Sides : goal.returns-in-Sides
returns-in-Sides c = rw c.in-Sides.is (c.set_sides.ensures c.args.defaults.now)

pub returns-in-Tray : goal.returns-in-Tray
returns-in-Tray c = rw c.in-Tray.is (c.set_source.ensures c.args.defaults.now)

pub returns-in-Home : goal.returns-in-Home
returns-in-Home c = rw c.in-Home.is (c.go_home.ensures c.args.defaults.now)

pub returns-in-Orientation : goal.returns-in-Orientation
returns-in-Orientation c = rw c.in-Orientation.is c.set_orientation.ensures

pub returns-in-Defaults : goal.returns-in-Defaults
returns-in-Defaults c = rw c.in-Defaults.is c.return_to_start.ensures
