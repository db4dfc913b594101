mod Unmoved
