-- What is asked of the documents of jobs.
use Rattle.std.specs.Prelude.{map, option_map}
use Rattle.many_jobs.specs.Asked.{asked_for}
use Rattle.many_requests.specs.declared.documents.Documents.{Documents}
use Rattle.many_requests.specs.Documents.{DocumentsAsked}

abbrev pub documents_asked : Documents → DocumentsAsked
documents_asked documents = record {
  folder = documents.folder.now;
  asked = asked_for documents.many.now;
  fleets = map (λ path. path.now) documents.fleets.now;
  names_from = option_map (λ path. path.now) documents.names_from;
  has_errors = documents.has_errors;
}
