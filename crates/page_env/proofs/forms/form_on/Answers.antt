use Rattle.std.proofs.Common.{subst, sym}
use Rattle.pcl_items.specs.Items.{amount}
use Rattle.page_env.specs.Forms.{FormsBy}
use Rattle.page_env.proofs.forms.form_on.Goals as goal

pub returns-in-HorizontalUnits-clause-goes : goal.returns-in-HorizontalUnits-clause-goes
returns-in-HorizontalUnits-clause-goes c =
    let n = amount c.args.n in
    subst (λ command. FormsBy c.args.bounds.now command n c.args.page.now c.move_x_on.new.page c.move_x_on.result)
    (sym c.in-HorizontalUnits.is) c.move_x_on.ensures.goes

pub returns-in-VerticalUnits-clause-goes : goal.returns-in-VerticalUnits-clause-goes
returns-in-VerticalUnits-clause-goes c =
    let n = amount c.args.n in
    subst (λ command. FormsBy c.args.bounds.now command n c.args.page.now c.move_y_on.new.page c.move_y_on.result)
    (sym c.in-VerticalUnits.is) c.move_y_on.ensures.goes

pub returns-in-HorizontalDecipoints-clause-goes : goal.returns-in-HorizontalDecipoints-clause-goes
returns-in-HorizontalDecipoints-clause-goes c =
    let n = amount c.args.n in
    subst (λ command. FormsBy c.args.bounds.now command n c.args.page.now c.move_x_decipoints_on.new.page c.move_x_decipoints_on.result)
    (sym c.in-HorizontalDecipoints.is) c.move_x_decipoints_on.ensures.goes

pub returns-in-VerticalDecipoints-clause-goes : goal.returns-in-VerticalDecipoints-clause-goes
returns-in-VerticalDecipoints-clause-goes c =
    let n = amount c.args.n in
    subst (λ command. FormsBy c.args.bounds.now command n c.args.page.now c.move_y_decipoints_on.new.page c.move_y_decipoints_on.result)
    (sym c.in-VerticalDecipoints.is) c.move_y_decipoints_on.ensures.goes

pub returns-in-Column-clause-goes : goal.returns-in-Column-clause-goes
returns-in-Column-clause-goes c =
    let n = amount c.args.n in
    subst (λ command. FormsBy c.args.bounds.now command n c.args.page.now c.move_columns_on.new.page c.move_columns_on.result)
    (sym c.in-Column.is) c.move_columns_on.ensures.goes

pub returns-in-Row-clause-goes : goal.returns-in-Row-clause-goes
returns-in-Row-clause-goes c =
    let n = amount c.args.n in
    subst (λ command. FormsBy c.args.bounds.now command n c.args.page.now c.move_rows_on.new.page c.move_rows_on.result)
    (sym c.in-Row.is) c.move_rows_on.ensures.goes

pub returns-in-RectangleWidth-clause-goes : goal.returns-in-RectangleWidth-clause-goes
returns-in-RectangleWidth-clause-goes c =
    let n = amount c.args.n in
    subst (λ command. FormsBy c.args.bounds.now command n c.args.page.now c.set_width_on.new.page c.set_width_on.result)
    (sym c.in-RectangleWidth.is) c.set_width_on.ensures.goes

pub returns-in-RectangleHeight-clause-goes : goal.returns-in-RectangleHeight-clause-goes
returns-in-RectangleHeight-clause-goes c =
    let n = amount c.args.n in
    subst (λ command. FormsBy c.args.bounds.now command n c.args.page.now c.set_height_on.new.page c.set_height_on.result)
    (sym c.in-RectangleHeight.is) c.set_height_on.ensures.goes

pub returns-in-FillRectangle-clause-goes : goal.returns-in-FillRectangle-clause-goes
returns-in-FillRectangle-clause-goes c =
    let n = amount c.args.n in
    subst (λ command. FormsBy c.args.bounds.now command n c.args.page.now c.fill_on.new.page c.fill_on.result)
    (sym c.in-FillRectangle.is) c.fill_on.ensures.goes

pub returns-in-CursorStack-clause-goes : goal.returns-in-CursorStack-clause-goes
returns-in-CursorStack-clause-goes c =
    let n = amount c.args.n in
    subst (λ command. FormsBy c.args.bounds.now command n c.args.page.now c.use_stack_on.new.page c.use_stack_on.result)
    (sym c.in-CursorStack.is) c.use_stack_on.ensures.goes
