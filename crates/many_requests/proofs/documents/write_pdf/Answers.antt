use Rattle.many_requests.proofs.documents.write_pdf.Goals as goal

pub returns : goal.returns
returns g c = record {
  status = c.pdf-status.result;
  line = c.new-line.result;
  line' = c.pdf-status.new.stdout;
  note = c.new-note.result;
  note' = c.pdf-status.new.stderr;
  no_line = c.new-line.ensures.bytes;
  no_note = c.new-note.ensures.bytes;
  left = c.pdf-status.ensures;
  well_is = c.is_written.ensures;
  told = c.tell_document.ensures;
}
