-- What a view of keys shows.
use Rattle.sheet.specs.Images.{Image, image_of}
use Rattle.erosion.specs.declared.view.View.{View}

-- the image of the keys
abbrev pub shown : View → Image
shown view = image_of view.size.width view.keys.now
