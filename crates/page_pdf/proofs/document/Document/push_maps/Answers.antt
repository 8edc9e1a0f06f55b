use Rattle.page_pdf.specs.Document.{map_of, maps_written}
use Rattle.page_picture.specs.declared.characters.Repertoire.TheVariants.{Pc8, Pc850, Roman8, Windows}
use Rattle.page_pdf.proofs.Steps.{four_written}
use Rattle.page_pdf.proofs.document.Document.push_maps.Goals as goal

pub returns : goal.returns
unfolding maps_written
returns g c =
    four_written c.push_map_of-4.result (map_of Windows) (map_of Pc8) (map_of Pc850) (map_of Roman8)
    c.args.text.now.items c.push_map_of.new.text.items c.push_map_of-2.new.text.items c.push_map_of-3.new.text.items
    c.push_map_of-4.new.text.items
    c.args.self.now c.push_map_of.new.self c.push_map_of-2.new.self c.push_map_of-3.new.self c.push_map_of-4.new.self
    c.in_ok-push_map_of.ensures c.in_ok-push_map_of-2.ensures c.in_ok-push_map_of-3.ensures
    c.push_map_of-4.ensures
